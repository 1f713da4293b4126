-- A link from its text, which was lifted to the end of the room, and the steps of links and emphasis in their definitions.
use Prim.Native.Nat.{ℕ, ◌+◌, ◌≤◌}
use mathlib.Core.Path.{◌≡◌, refl, sym, ap, subst, subst₂, ◌∙◌}
use mathlib.Core.Bool.{Bool, true, false, cond}
use mathlib.Core.List.{List, [], ◌∷◌, ◌++◌}
use native.Mathlib.Omega.{arith}
use lib.ListN.{length, take, drop, length-drop}
use lib.Seq.{length-take-le, take-take}
use Rattle.spec.specs.Bytes.{Bytes, ascii, null, is_blank}
use Rattle.spec.specs.Tree.{Attr, Forest}
use Rattle.spec.specs.Out.{Out, Step, keep, and_then, beside, nested}
use Rattle.spec.specs.Md.Ctx.{fresh, contains, scope_of, include_node, inline, emphasis_scope}
use Rattle.spec.specs.Md.TextUtils.{push_normalized_text}
use Rattle.spec.specs.Md.MDSerializer.{Ancestors, MDSerializer}
use Rattle.spec.specs.Md.Elements.Emphasis.{md_emphasis, push_emphasis, write_emphasis}
use Rattle.spec.specs.Md.Elements.Link.{link_of, blank_link, text_link}
use Rattle.spec.specs.declared.ctx.FormatOpts.{FormatOpts}
use Rattle.text.specs.Source.{WritesIn}
use Rattle.text.specs.declared.text.Text.{Text}
use Rattle.text.specs.Texts.{bytes, wrote, WritesTo}
use Rattle.text.specs.Writes.{Written, Refused, Says, Writes, Wrote}
use Rattle.std.specs.Prelude.{Ok, Err}
use Rattle.text.proofs.Reading.{null_some}
use Rattle.text.proofs.Sourcing.{lent_front}
use Rattle.text.proofs.Texts.{Answer}
use Rattle.text.proofs.Writing.{yes, no, done, reaches}
use Rattle.elements.specs.EmphasisStep.{emphasis_step}
use Rattle.elements.specs.LinkStep.{append_by, bracket, link_front, link_shown, link_step, plain_step, text_link_step}

-- ---- the temporary is what stands from base on

-- what is written before it; it counts meanwhile
pub before_temp : {d final : List ℕ} {base : ℕ} {r : Wrote} {o : Out} → base ≤ length d → WritesIn base d final r o → Writes (length d) final r (beside (length (drop base d)) o)
unfolding beside
before_temp {d} {final} {base} {r} {o} g w = record { says = go r w.writes.says }
  where
    go : (r : Wrote) → Says base (take base final) r o → Says (length d) final r (beside (length (drop base d)) o)
    go (Ok m) y =
        record {
          long = w.long;
          fits = omega (arith, y.fits, length-drop base d);
          count = y.count;
          text_is = sym (take-take m base final (omega (arith, reaches y, y.long))) ∙ y.text_is;
        }
    go (Err _) y = record { over = omega (arith, y.over, length-drop base d) }

-- f of the text before it, and then g of it
module _ (d : List ℕ) (len base : ℕ) (h : base ≤ length d) (f : Step) {mid : List ℕ} {r : Wrote} (w : WritesIn base d mid r (f (take len d))) where
  module _ {m : ℕ} (e : r ≡ Ok m) where
    front : Written base (take base mid) m (f (take len d))
    front = done e w.writes

    front_reach : m ≤ base
    front_reach = omega (arith, reaches front, front.long)

    so_far : take m mid ≡ (f (take len d)).text
    so_far = sym (take-take m base mid front_reach) ∙ front.text_is

    front_then : (g : List ℕ → Step) {after : List ℕ} {s : Wrote} → Writes (length mid) after s (beside (length (drop base mid)) (g (drop base mid) (take m mid)))
        → Writes (length d) after s (beside (length (drop base d)) (and_then (f (take len d)) (g (drop base d))))
    unfolding and_then beside
    front_then g {after} {s} v =
        record {
          says = go s (subst (λ (j : ℕ). Says j after s (beside (length (drop base d)) (g (drop base d) (f (take len d)).text))) w.long
              (subst₂ (λ (x t : List ℕ). Says (length mid) after s (beside (length x) (g x t))) w.behind so_far v.says));
        }
      where
        go : (s : Wrote) → Says (length d) after s (beside (length (drop base d)) (g (drop base d) (f (take len d)).text))
            → Says (length d) after s (beside (length (drop base d)) (and_then (f (take len d)) (g (drop base d))))
        go (Ok j) u = record { long = u.long; fits = omega (arith, u.fits, front.fits, length-drop base d); count = u.count; text_is = u.text_is }
        go (Err _) u = record { over = omega (arith, u.over) }

-- where f has no room before it
pub front_over : (d : List ℕ) (base : ℕ) → base ≤ length d → {o : Out} (g : Step) → Refused base o → Refused (length d) (beside (length (drop base d)) (and_then o g))
unfolding and_then beside
front_over d base h g v = record { over = omega (arith, v.over, length-drop base d) }

-- f is written to the text in the room before `base`, which is ys then, and c is the whole text
module _ (a : Text) (base : ℕ) (h : a.len ≤ base) (g : base ≤ length a.room.now) (f : Step) {ys : List ℕ} {r : Wrote} (l : length ys ≡ length (take base a.room.now))
    (w : Writes (length (take base a.room.now)) ys r (f (take a.len (take base a.room.now)))) where
  pub front_to : {m : ℕ} → r ≡ Ok m → (k : List ℕ → Step) {c e : Text} {s : Answer} → WritesTo c e s (λ t. beside (length (drop base c.room.now)) (k (drop base c.room.now) t))
      → c.len ≡ m → c.room.ghost_name ≡ a.room.ghost_name → c.room.now ≡ ys ++ drop base a.room.now → WritesTo a e s (λ t. beside (length (drop base a.room.now)) (and_then (f t) (k (drop base a.room.now))))
  front_to {m} z k {c} {e} {s} v n o q =
      let x : WritesIn base a.room.now (ys ++ drop base a.room.now) r (f (bytes a)) = lent_front base a.len a.room.now ys f h g l w in
      let mid : List ℕ = ys ++ drop base a.room.now in
      let y : Writes (length mid) e.room.now (wrote e s) (beside (length (drop base mid)) (k (drop base mid) (take m mid))) =
      subst₂ (λ (j : ℕ) (d : List ℕ). Writes (length d) e.room.now (wrote e s) (beside (length (drop base d)) (k (drop base d) (take j d)))) n q v.writes in
      record { room_is = v.room_is ∙ o; long = v.long ∙ (ap length q ∙ x.long); writes = front_then a.room.now a.len base g f x z k y }

-- ---- whether there is a text

some_text : (d : List ℕ) (len n : ℕ) → len + n ≤ length d → (n ≡ 0 → ⊥) → null (take n (drop len d)) ≡ false
some_text d len n h e = null_some (take n (drop len d)) (λ q. e (omega (arith, length-take-le n (drop len d) (omega (arith, length-drop len d)))))

module _ (d : List ℕ) (len n : ℕ) (attrs : List Attr) (href : Bytes) (append : Bytes → Step) (t : Bytes) where
  pub link_none : n ≡ 0 → link_step attrs href (take n (drop len d)) append t ≡ keep t
  unfolding link_step null
  link_none e = rw e

  pub link_some : len + n ≤ length d → (n ≡ 0 → ⊥) → link_step attrs href (take n (drop len d)) append t ≡ link_shown attrs href (take n (drop len d)) append t
  unfolding link_step
  link_some h e = rw (some_text d len n h e)

module _ (opts : FormatOpts) (name : ℕ) (d : List ℕ) (len n : ℕ) (t : Bytes) where
  pub emphasis_none : n ≡ 0 → emphasis_step opts name (take n (drop len d)) t ≡ keep t
  unfolding emphasis_step null
  emphasis_none e = rw e

  module _ (h : len + n ≤ length d) (e : n ≡ 0 → ⊥) where
    pub emphasis_inside : contains opts.emphasis_scope (scope_of (md_emphasis name)) ≡ true
        → emphasis_step opts name (take n (drop len d)) t ≡ push_emphasis [] (take n (drop len d)) t
    unfolding emphasis_step
    emphasis_inside q = rw (some_text d len n h e, q)

    pub emphasis_marked : {strong b : Bool} → contains opts.emphasis_scope (scope_of (md_emphasis name)) ≡ false → md_emphasis name ≡ cond strong (ascii "**") (ascii "*") → strong ≡ b
        → emphasis_step opts name (take n (drop len d)) t ≡ push_emphasis (cond b (ascii "**") (ascii "*")) (take n (drop len d)) t
    unfolding emphasis_step
    emphasis_marked q m s = rw (some_text d len n h e, q, m, s)

-- ---- whether a link's texts are blank

module _ (opts : FormatOpts) (attrs : List Attr) (href s t : Bytes) {own : FormatOpts} (q : own ≡ fresh opts) {b : Bool} (h : b ≡ is_blank s) where
  pub text_blank : b ≡ true → text_link_step opts attrs href s t ≡ plain_step own s t
  unfolding text_link_step
  text_blank e = yes (plain_step (fresh opts) s t) _ (sym h ∙ e) ∙ ap (λ (o : FormatOpts). plain_step o s t) (sym q)

  pub text_shown : b ≡ false → text_link_step opts attrs href s t ≡ link_step attrs href s (append_by true own) t
  unfolding text_link_step
  text_shown e = no _ (link_step attrs href s (append_by true (fresh opts)) t) (sym h ∙ e) ∙ ap (λ (o : FormatOpts). link_step attrs href s (append_by true o) t) (sym q)

-- ---- the steps in their definitions

pub link_is : (attrs : List Attr) (href : Bytes) (link : Out) (append : Bytes → Step) → link_of attrs href link append ≡ nested link (link_step attrs href link.text append)
unfolding link_of link_step link_shown link_front bracket
link_is attrs href link append = refl

pub text_link_is : (opts : FormatOpts) (href : Bytes) (attrs : List Attr) (link : Out) (t : Bytes)
    → cond (is_blank link.text) (blank_link opts link t) (text_link opts href attrs link t) ≡ nested link (text_link_step opts attrs href link.text) t
unfolding blank_link text_link link_of text_link_step plain_step link_step link_shown link_front bracket nested
text_link_is opts href attrs link t = go (is_blank link.text)
  where
    go : (b : Bool) → cond b (blank_link opts link t) (text_link opts href attrs link t)
        ≡ nested link (λ (u : Bytes). cond b (plain_step (fresh opts) link.text u) (link_step attrs href link.text (λ s. push_normalized_text s (fresh opts)) u)) t
    go true = refl
    go false = refl

pub emphasis_is : (self : MDSerializer) (anc : Ancestors) (opts : FormatOpts) (name : ℕ) (attrs : List Attr) (kids : Forest)
    → let written : Out = self.below (attrs ∷ anc) (emphasis_scope (scope_of (md_emphasis name)) (inline (include_node opts))) kids [] in
    write_emphasis self anc opts name attrs kids ≡ nested written (emphasis_step opts name written.text)
unfolding write_emphasis emphasis_step
emphasis_is self anc opts name attrs kids = refl
