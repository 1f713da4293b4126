-- `write` under `skip_md` from place to place.
use Prim.Native.Nat.{ℕ, zero, suc, ◌+◌, ◌-◌, ◌*◌, ◌≤◌, ◌<◌}
use native.Mathlib.Omega.{arith}
use native.Mathlib.Nat.{add-mul, mul-le-mul_right}
use mathlib.Core.Path.{◌≡◌, refl, ap, ◌∙◌, sym, subst}
use mathlib.Core.Bool.{Bool, true, false, and-false}
use mathlib.Core.List.{List, [], ◌∷◌}
use lib.ListN.{get_or}
use lib.Dec.{eqb, ltb}
use borrow.Author.Tests.{eq-eqb, ne_eqb, lt-ltb, le-ltb, ltb-true, ltb-false}
use Rattle.spec.specs.Bytes.{Bytes, among, ends_with}
use Rattle.spec.specs.Names.{tag_of}
use Rattle.spec.specs.Tree.{Attr, Forest, nothing, text, comment, element}
use Rattle.spec.specs.Out.{Out, Step, keep, push, and_then}
use Rattle.spec.specs.Md.Elements.Code.{blank_for_br, close_skip_md, write_skip_md}
use Rattle.spec.specs.declared.ctx.FormatOpts.{FormatOpts}
use Rattle.tree.specs.Memory.{place_at, end_at, parent_at}
use Rattle.tree.specs.Represents.{Rep}
use Rattle.tree.specs.Nodes.{name_at, skipped_at}
use Rattle.tree.proofs.Firsts.{rep_le, ended, its_tag, its_body}
use Rattle.tree.proofs.Kin.{first_skipped}
use Rattle.std.specs.Prelude.{Ok, Err}
use Rattle.std.specs.Result.{IsErr}
use Rattle.text.specs.declared.buffer.Full.{Full}
use Rattle.text.specs.declared.text.Text.{Text}
use Rattle.text.specs.Texts.{bytes, WritesTo}
use Rattle.text.proofs.Texts.{Answer, Owes, owes_all, owes_step, owes_stop, owes_none}
use Rattle.text.proofs.Writing.{same_out, keep_then, then_assoc}
use Rattle.nodes.specs.Stands.{NodeAt, ElementAt}
use Rattle.nodes.specs.TextStep.{text_step}
use Rattle.nodes.specs.Spots.{spot_step, below_spot, next_spot}
use Rattle.nodes.specs.declared.skip_md.Spot.{Spot}
use Rattle.nodes.proofs.Numbers.{both}
use Rattle.nodes.proofs.Siblings.{its_node}
use Rattle.nodes.proofs.Interrupts.{element_node}

-- ---- a close

module _ (name : ℕ) (t : Bytes) where
  pub br_other : (name ≡ 20 → ⊥) → blank_for_br name t ≡ keep t
  unfolding blank_for_br
  br_other n = rw (ne_eqb name 20 n)

  pub br_ended : ends_with (32 ∷ []) t ≡ true → blank_for_br name t ≡ keep t
  unfolding blank_for_br
  br_ended e = rw (e, and-false (eqb name 20))

  pub br_blank : name ≡ 20 → ends_with (32 ∷ []) t ≡ false → blank_for_br name t ≡ push (32 ∷ []) t
  unfolding blank_for_br
  br_blank q e = rw (eq-eqb name 20 q, e)

  pub close_ended : ends_with (10 ∷ 10 ∷ []) t ≡ true → close_skip_md name t ≡ keep t
  unfolding close_skip_md
  close_ended e = rw e

  pub close_on : ends_with (10 ∷ 10 ∷ []) t ≡ false → close_skip_md name t ≡ blank_for_br name t
  unfolding close_skip_md
  close_on e = rw e

-- ---- one place

module _ (opts : FormatOpts) (sh ns : Bytes) (o at : ℕ) (t : Bytes) where
  pub spot_text : at < end_at ns o → spot_step opts sh ns o at t ≡ text_step opts sh (place_at ns at) t
  unfolding spot_step
  spot_text l = rw (lt-ltb at (end_at ns o) l)

  pub spot_close : end_at ns o ≤ at → spot_step opts sh ns o at t ≡ close_skip_md (name_at sh (place_at ns o)) t
  unfolding spot_step
  spot_close l = rw (le-ltb at (end_at ns o) l)

module _ (skips : List Bytes) (sh ns : Bytes) (o at : ℕ) where
  pub below_skipped : skipped_at skips sh (place_at ns at) ≡ true → below_spot skips sh ns o at ≡ record { «open» = o; at = end_at ns at }
  unfolding below_spot
  below_skipped e = rw e

  pub below_in : skipped_at skips sh (place_at ns at) ≡ false → get_or sh (place_at ns at) 0 ≡ 1 → below_spot skips sh ns o at ≡ record { «open» = at; at = at + 1 }
  unfolding below_spot
  below_in e q = rw (e, eq-eqb (get_or sh (place_at ns at) 0) 1 q)

  pub below_other : skipped_at skips sh (place_at ns at) ≡ false → (get_or sh (place_at ns at) 0 ≡ 1 → ⊥) → below_spot skips sh ns o at ≡ record { «open» = o; at = at + 1 }
  unfolding below_spot
  below_other e q = rw (e, ne_eqb (get_or sh (place_at ns at) 0) 1 q)

  pub next_below : (top : ℕ) → at < end_at ns o → next_spot skips sh ns top o at ≡ below_spot skips sh ns o at
  unfolding next_spot
  next_below top l = rw (lt-ltb at (end_at ns o) l)

  pub next_none : (top : ℕ) → end_at ns o ≤ at → o ≡ top → next_spot skips sh ns top o at ≡ record { «open» = 0; at = at }
  unfolding next_spot
  next_none top l q = rw (le-ltb at (end_at ns o) l, eq-eqb o top q)

  pub next_up : (top : ℕ) → end_at ns o ≤ at → (o ≡ top → ⊥) → next_spot skips sh ns top o at ≡ record { «open» = parent_at ns o; at = at }
  unfolding next_spot
  next_up top l q = rw (le-ltb at (end_at ns o) l, ne_eqb o top q)

  other_kept : (get_or sh (place_at ns at) 0 ≡ 1 → ⊥) → skipped_at skips sh (place_at ns at) ≡ false
  unfolding skipped_at
  other_kept q = rw (ne_eqb (get_or sh (place_at ns at) 0) 1 q)

-- ---- what is left to be written behind the children of an open element

abbrev pub closes : Bytes → Bytes → ℕ → Step
closes sh ns o = close_skip_md (name_at sh (place_at ns o))

-- the open element p, `top` or one in it
pub record Opened (sh ns : Bytes) (top p : ℕ) : Type 0 where
  pub node : NodeAt sh ns p
  pub positive : 0 < p
  pub above : top ≤ p
  pub within : end_at ns p ≤ end_at ns top

-- g follows the children of the element o, which stands in d elements up to `top`
unfoldable pub Behind : List Bytes → FormatOpts → Bytes → Bytes → ℕ → ℕ → ℕ → Step → Type 0
Behind skips opts sh ns top zero o g = (o ≡ top) × (g ≡ closes sh ns o)
Behind skips opts sh ns top (suc d) o g =
    (p : ℕ) × (f : Forest) × (h : Step) × Opened sh ns top p × (parent_at ns o ≡ p) × (p < o) × Rep sh ns p (end_at ns o) (end_at ns p) f
    × Behind skips opts sh ns top d p h × (g ≡ both (closes sh ns o) (both (write_skip_md skips opts f) h))

-- node `at` follows in the open element o, or the element ends there
pub record Inside (skips : List Bytes) (opts : FormatOpts) (sh ns : Bytes) (top o at : ℕ) (rest : Step) : Type 0 where
  pub this : Opened sh ns top o
  pub low : o < at
  pub kids : Forest
  pub kids_are : Rep sh ns o at (end_at ns o) kids
  pub depth : ℕ
  pub more : Step
  pub behind : Behind skips opts sh ns top depth o more
  pub rest_is : rest ≡ both (write_skip_md skips opts kids) more

-- such an element is open, or none is
pub record Ahead (skips : List Bytes) (opts : FormatOpts) (sh ns : Bytes) (top o at : ℕ) (rest : Step) : Type 0 where
  pub none : o ≡ 0 → rest ≡ keep
  pub some : (o ≡ 0 → ⊥) → Inside skips opts sh ns top o at rest

-- the number that falls
abbrev pub fall : Bytes → ℕ → ℕ → ℕ → ℕ
fall ns top o at = (end_at ns top - at) * end_at ns top + o

-- a step of `rest`, and the place behind it
pub record Turn (skips : List Bytes) (opts : FormatOpts) (sh ns : Bytes) (top o at : ℕ) (rest : Step) (next : Spot) : Type 0 where
  pub left : Step
  pub ahead : Ahead skips opts sh ns top next.«open» next.at left
  pub goes : (t : Bytes) → rest t ≡ and_then (spot_step opts sh ns o at t) left
  pub less : fall ns top next.«open» next.at < fall ns top o at

falls_on : (k l e x y : ℕ) → k < l → x < e → k * e + x < l * e + y
falls_on k l e x y h m =
    let a : (k + 1) * e ≤ l * e = mul-le-mul_right e (omega arith) in
    omega (arith, add-mul k 1 e)

falls_up : (a x y : ℕ) → x < y → a + x < a + y
falls_up a x y h = omega arith

pub then_keep : (o : Out) → and_then o keep ≡ o
unfolding and_then keep
then_keep o = same_out refl (omega arith)

inside : {skips : List Bytes} {opts : FormatOpts} {sh ns : Bytes} {top o at : ℕ} (kids : Forest) (depth : ℕ) (more : Step) → Opened sh ns top o → o < at
    → Rep sh ns o at (end_at ns o) kids → Behind skips opts sh ns top depth o more → Ahead skips opts sh ns top o at (both (write_skip_md skips opts kids) more)
inside kids depth more p l h b =
    record {
      none = λ z. absurd (omega (arith, p.positive));
      some = λ z. record { this = p; low = l; kids = kids; kids_are = h; depth = depth; more = more; behind = b; rest_is = refl };
    }

module _ (skips : List Bytes) (opts : FormatOpts) (sh ns : Bytes) (top o at : ℕ) (p : Opened sh ns top o) (low : o < at) (d : ℕ) (more : Step)
    (b : Behind skips opts sh ns top d o more) where
  module _ (f r : Forest) (l : at < end_at ns o) where
    -- a node that is left out, or has nothing in it
    stays_turn : (e : ℕ) → at < e → below_spot skips sh ns o at ≡ record { «open» = o; at = e } → Rep sh ns o e (end_at ns o) r
        → ((t : Bytes) → write_skip_md skips opts f t ≡ and_then (text_step opts sh (place_at ns at) t) (write_skip_md skips opts r))
        → Turn skips opts sh ns top o at (both (write_skip_md skips opts f) more) (below_spot skips sh ns o at)
    stays_turn e m q h g =
        subst (λ (z : Spot). Turn skips opts sh ns top o at (both (write_skip_md skips opts f) more) z) (sym q)
        (record {
          left = both (write_skip_md skips opts r) more;
          ahead = inside r d more p (omega arith) h b;
          goes = λ t.
              ap (λ (x : Out). and_then x more) (g t)
              ∙ (then_assoc (text_step opts sh (place_at ns at) t) (write_skip_md skips opts r) more
              ∙ ap (λ (x : Out). and_then x (both (write_skip_md skips opts r) more)) (sym (spot_text opts sh ns o at t l)));
          less = falls_on (end_at ns top - e) (end_at ns top - at) (end_at ns top) o o (omega (arith, p.within)) (omega (arith, p.within));
        })

    -- an element that is opened
    opens_turn : (k : Forest) → below_spot skips sh ns o at ≡ record { «open» = at; at = at + 1 } → NodeAt sh ns at → parent_at ns at ≡ o → end_at ns at ≤ end_at ns o
        → Rep sh ns at (at + 1) (end_at ns at) k → Rep sh ns o (end_at ns at) (end_at ns o) r
        → ((t : Bytes) → text_step opts sh (place_at ns at) t ≡ keep t)
        → ((t : Bytes) → write_skip_md skips opts f t ≡ and_then (and_then (write_skip_md skips opts k t) (closes sh ns at)) (write_skip_md skips opts r))
        → Turn skips opts sh ns top o at (both (write_skip_md skips opts f) more) (below_spot skips sh ns o at)
    unfolding Behind
    opens_turn k q n u e hk hr none g =
        subst (λ (z : Spot). Turn skips opts sh ns top o at (both (write_skip_md skips opts f) more) z) (sym q)
        (record {
          left = both (write_skip_md skips opts k) (both (closes sh ns at) (both (write_skip_md skips opts r) more));
          ahead =
              inside k (suc d) (both (closes sh ns at) (both (write_skip_md skips opts r) more))
              (record { node = n; positive = omega arith; above = omega (arith, p.above); within = omega (arith, p.within) }) (omega arith) hk
              (o, r, more, p, u, low, hr, b, refl);
          goes = λ t.
              ap (λ (x : Out). and_then x more) (g t)
              ∙ (then_assoc (and_then (write_skip_md skips opts k t) (closes sh ns at)) (write_skip_md skips opts r) more
              ∙ (then_assoc (write_skip_md skips opts k t) (closes sh ns at) (both (write_skip_md skips opts r) more)
              ∙ sym (ap (λ (x : Out). and_then x (both (write_skip_md skips opts k) (both (closes sh ns at) (both (write_skip_md skips opts r) more))))
              (spot_text opts sh ns o at t l ∙ none t) ∙ keep_then t _)));
          less = falls_on (end_at ns top - (at + 1)) (end_at ns top - at) (end_at ns top) at o (omega (arith, p.within)) (omega (arith, p.within));
        })

  below_turn : (f : Forest) → at < end_at ns o → Rep sh ns o at (end_at ns o) f
      → Turn skips opts sh ns top o at (both (write_skip_md skips opts f) more) (below_spot skips sh ns o at)
  unfolding Rep write_skip_md text_step name_at
  below_turn nothing l h = absurd (omega arith)
  below_turn (text s r) l h =
      let n : get_or sh (place_at ns at) 0 ≡ 1 → ⊥ = λ q. omega (arith, its_tag h.1) in
      stays_turn (text s r) r l (at + 1) (omega arith) (below_other skips sh ns o at (other_kept skips sh ns o at n) n) h.4
      (λ t. rw (eq-eqb (get_or sh (place_at ns at) 0) 4 (its_tag h.1), ← its_body h.1))
  below_turn (comment s r) l h =
      let n : get_or sh (place_at ns at) 0 ≡ 1 → ⊥ = λ q. omega (arith, its_tag h.1) in
      stays_turn (comment s r) r l (at + 1) (omega arith) (below_other skips sh ns o at (other_kept skips sh ns o at n) n) h.4
      (λ t. rw (ne_eqb (get_or sh (place_at ns at) 0) 4 (λ q. omega (arith, its_tag h.1))) (sym (keep_then t (write_skip_md skips opts r))))
  below_turn (element name attrs k r) l h = go (among name skips) refl
    where
      tag : get_or sh (place_at ns at) 0 ≡ 1
      tag = its_tag h.1

      none : (t : Bytes) → text_step opts sh (place_at ns at) t ≡ keep t
      none t = rw (ne_eqb (get_or sh (place_at ns at) 0) 4 (λ q. omega (arith, tag)))

      skips_it : among name skips ≡ skipped_at skips sh (place_at ns at)
      skips_it = ap (λ (x : Bytes). among x skips) (its_body h.1) ∙ sym (first_skipped sh (place_at ns at) skips tag)

      name_is : tag_of name ≡ name_at sh (place_at ns at)
      name_is = rw (eq-eqb (get_or sh (place_at ns at) 0) 1 tag) (ap tag_of (its_body h.1))

      go : (z : Bool) → among name skips ≡ z → Turn skips opts sh ns top o at (both (write_skip_md skips opts (element name attrs k r)) more) (below_spot skips sh ns o at)
      go true e =
          stays_turn (element name attrs k r) r l (end_at ns at) (omega (arith, rep_le sh ns at (at + 1) (end_at ns at) k h.4))
          (below_skipped skips sh ns o at (sym skips_it ∙ e)) h.5 (λ t. rw e (ap (λ (x : Out). and_then x (write_skip_md skips opts r)) (sym (none t))))
      go false e =
          opens_turn (element name attrs k r) r l k (below_in skips sh ns o at (sym skips_it ∙ e) tag) (record { inside = h.0; placed = h.1.head; numbered = h.1.number }) h.3
          (rep_le sh ns o (end_at ns at) (end_at ns o) r h.5) h.4 h.5 none
          (λ t. rw (e, name_is))

  -- no node follows
  close_turn : (f : Forest) → end_at ns o ≤ at → Rep sh ns o at (end_at ns o) f
      → Turn skips opts sh ns top o at (both (write_skip_md skips opts f) more) (next_spot skips sh ns top o at)
  unfolding write_skip_md Behind
  close_turn f l h = go d b
    where
      here : at ≡ end_at ns o
      here = omega (arith, rep_le sh ns o at (end_at ns o) f h)

      step : (t : Bytes) → both (write_skip_md skips opts f) more t ≡ more t
      step t = ap (λ (x : Forest). and_then (write_skip_md skips opts x t) more) (ended sh ns o at (end_at ns o) f h l) ∙ keep_then t more

      go : (d : ℕ) → Behind skips opts sh ns top d o more → Turn skips opts sh ns top o at (both (write_skip_md skips opts f) more) (next_spot skips sh ns top o at)
      go zero (q, e) =
          subst (λ (z : Spot). Turn skips opts sh ns top o at (both (write_skip_md skips opts f) more) z) (sym (next_none skips sh ns o at top l q))
          (record {
            left = keep;
            ahead = record { none = λ z. refl; some = λ z. absurd (z refl) };
            goes = λ t. step t ∙ (ap (λ (g : Step). g t) e ∙ (sym (spot_close opts sh ns o at t l) ∙ sym (then_keep (spot_step opts sh ns o at t))));
            less = falls_up _ 0 o p.positive;
          })
      go (suc d) (q, g, u, w, v, m, hr, x, e) =
          subst (λ (z : Spot). Turn skips opts sh ns top o at (both (write_skip_md skips opts f) more) z)
          (sym (next_up skips sh ns o at top l (λ (z : o ≡ top). omega (arith, w.above)) ∙ ap (λ (z : ℕ). record { «open» = z; at = at }) v))
          (record {
            left = both (write_skip_md skips opts g) u;
            ahead = inside g d u w (omega arith) (subst (λ (z : ℕ). Rep sh ns q z (end_at ns q) g) (sym here) hr) x;
            goes = λ t. step t ∙ (ap (λ (g : Step). g t) e ∙ ap (λ (y : Out). and_then y (both (write_skip_md skips opts g) u)) (sym (spot_close opts sh ns o at t l)));
            less = falls_up _ q o m;
          })

pub turn : {skips : List Bytes} {opts : FormatOpts} {sh ns : Bytes} {top o at : ℕ} {rest : Step} → Inside skips opts sh ns top o at rest
    → Turn skips opts sh ns top o at rest (next_spot skips sh ns top o at)
turn {skips} {opts} {sh} {ns} {top} {o} {at} {rest} i =
    subst (λ (g : Step). Turn skips opts sh ns top o at g (next_spot skips sh ns top o at)) (sym i.rest_is) (go (ltb at (end_at ns o)) refl)
  where
    go : (z : Bool) → ltb at (end_at ns o) ≡ z → Turn skips opts sh ns top o at (both (write_skip_md skips opts i.kids) i.more) (next_spot skips sh ns top o at)
    go true e =
        let l : at < end_at ns o = ltb-true at (end_at ns o) e in
        subst (λ (s : Spot). Turn skips opts sh ns top o at (both (write_skip_md skips opts i.kids) i.more) s) (sym (next_below skips sh ns o at top l))
        (below_turn skips opts sh ns top o at i.this i.low i.depth i.more i.behind i.kids l i.kids_are)
    go false e = close_turn skips opts sh ns top o at i.this i.low i.depth i.more i.behind i.kids (ltb-false at (end_at ns o) e) i.kids_are

-- a node that follows
pub inside_node : {skips : List Bytes} {opts : FormatOpts} {sh ns : Bytes} {top o at : ℕ} {rest : Step} → Inside skips opts sh ns top o at rest → at < end_at ns o → NodeAt sh ns at
inside_node {skips} {opts} {sh} {ns} {top} {o} {at} i l = its_node sh ns o at (end_at ns o) i.kids i.kids_are l

-- ---- the loop: what is left at a place, of `whole`

pub record Going (skips : List Bytes) (opts : FormatOpts) (sh ns : Bytes) (top o at : ℕ) (before now : Text) (whole : Step) : Type 0 where
  pub rest : Step
  pub ahead : Ahead skips opts sh ns top o at rest
  pub owes : Owes before now rest whole

pub going_start : (skips : List Bytes) (opts : FormatOpts) {sh ns : Bytes} {i : ℕ} {name : Bytes} {attrs : List Attr} {kids : Forest} (before : Text) → ElementAt sh ns i name attrs kids
    → (f : Forest) → Rep sh ns i (i + 1) (end_at ns i) f
    → Going skips opts sh ns i i (i + 1) before before (both (write_skip_md skips opts f) (closes sh ns i))
unfolding Behind
going_start skips opts {sh} {ns} {i} before x f h =
    record {
      rest = both (write_skip_md skips opts f) (closes sh ns i);
      ahead = inside f 0 (closes sh ns i) (record { node = element_node x; positive = x.positive; above = omega arith; within = omega arith }) (omega arith) h (refl, refl);
      owes = owes_all before (both (write_skip_md skips opts f) (closes sh ns i));
    }

module _ {skips : List Bytes} {opts : FormatOpts} {sh ns : Bytes} {top o at : ℕ} {before now : Text} {whole : Step} (g : Going skips opts sh ns top o at before now whole) where
  pub going_end : o ≡ 0 → WritesTo before now (Ok tt) whole
  going_end z = owes_none g.owes (ap (λ (f : Step). f (bytes now)) (g.ahead.none z))

  module _ (z : o ≡ 0 → ⊥) where
    pub going_inside : Inside skips opts sh ns top o at g.rest
    going_inside = g.ahead.some z

    module _ {r : Answer} {after : Text} (w : WritesTo now after r (spot_step opts sh ns o at)) where
      pub going_on : {u : Unit {0}} {next : Spot} → r ≡ Ok u → next ≡ next_spot skips sh ns top o at → Going skips opts sh ns top next.«open» next.at before after whole
      going_on {u} {next} q e =
          let t : Turn skips opts sh ns top o at g.rest next = subst (λ (s : Spot). Turn skips opts sh ns top o at g.rest s) (sym e) (turn going_inside) in
          record { rest = t.left; ahead = t.ahead; owes = owes_step g.owes t.left (t.goes (bytes now)) q w }

      pub going_stop : {f : Full} {s : Answer} → r ≡ Err f → IsErr s → WritesTo before after s whole
      going_stop q h = let t = turn going_inside in owes_stop g.owes t.left (t.goes (bytes now)) q w h

    pub going_less : {next : Spot} → next ≡ next_spot skips sh ns top o at → fall ns top next.«open» next.at < fall ns top o at
    going_less {next} e = subst (λ (s : Spot). fall ns top s.«open» s.at < fall ns top o at) (sym e) (turn going_inside).less

-- ---- the whole element

module _ (skips : List Bytes) (opts : FormatOpts) {sh ns : Bytes} {i : ℕ} {name : Bytes} {attrs : List Attr} {kids : Forest} (x : ElementAt sh ns i name attrs kids) (t : Bytes) where
  its_skip : among name skips ≡ skipped_at skips sh (place_at ns i)
  its_skip = ap (λ (y : Bytes). among y skips) (its_body x.field) ∙ sym (first_skipped sh (place_at ns i) skips (its_tag x.field))

  pub whole_skipped : skipped_at skips sh (place_at ns i) ≡ true → write_skip_md skips opts (element name attrs kids nothing) t ≡ keep t
  unfolding write_skip_md
  whole_skipped e = rw (its_skip ∙ e) (keep_then t keep)

  pub whole_written : skipped_at skips sh (place_at ns i) ≡ false
      → write_skip_md skips opts (element name attrs kids nothing) t ≡ and_then (write_skip_md skips opts kids t) (close_skip_md (tag_of name))
  unfolding write_skip_md
  whole_written e = rw (its_skip ∙ e) (then_keep (and_then (write_skip_md skips opts kids t) (close_skip_md (tag_of name))))
