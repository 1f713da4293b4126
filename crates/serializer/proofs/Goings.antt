-- How the answers for the children of an item go together.
use Prim.Native.Nat.{ℕ, ◌≤◌, ◌<◌}
use mathlib.Core.Path.{◌≡◌, refl, ap, sym, subst, ◌∙◌}
use mathlib.Core.Bool.{Bool, true, false, ◌||◌, false≢true}
use lib.Dec.{ltb}
use lib.ListN.{length, take}
use lib.Seq.{length-take-le}
use Rattle.spec.specs.Bytes.{Bytes}
use Rattle.spec.specs.Tree.{Forest, nothing, text, comment, element}
use Rattle.spec.specs.Out.{Step, keep}
use Rattle.spec.specs.Md.MDSerializer.{Ancestors, MDSerializer}
use Rattle.spec.specs.Md.Elements.List.{Item, Progress, going, rule_block, item_children}
use Rattle.tree.specs.Memory.{end_at}
use Rattle.tree.specs.Represents.{Rep, Around, head_of, rest_of}
use Rattle.tree.proofs.Firsts.{first, ended}
use Rattle.lists_links.specs.Items.{rule_step}
use Rattle.text.specs.Writes.{Written, Refused, Says, Writes}
use Rattle.text.specs.Writes.{Wrote}
use Rattle.text.specs.declared.buffer.Full.{Full}
use Rattle.std.specs.Prelude.{Ok, Err}
use Rattle.std.specs.Result.{IsErr}
use Rattle.text.proofs.Writing.{alike, keeps, keep_then, then_done, then_full, refused, reaches, yes, no}
use Rattle.serializer.specs.Writers.{At, progress_at, progress_of, Went, SaysGoing, going_of, Goes, GoesForest}
use Rattle.serializer.proofs.Onward.{afresh, joined, Onward, rule_of, onward_children}

pub goes_alike : {room : ℕ} {after : Bytes} {r : Went} {p q : Progress} → p ≡ q → Goes room after r q → Goes room after r p
goes_alike {room} {after} {r} e w = subst (λ (x : Progress). Goes room after r x) (sym e) w

-- where `?` returns early
pub goes_not : {room : ℕ} {after : Bytes} {r : Went} {p : Progress} → IsErr r → Refused room p.out → Goes room after r p
goes_not {room} {after} {r} {p} h w = go r h
  where
    go : (r : Went) → IsErr r → Goes room after r p
    go (Ok g) h = absurd (false≢true h)
    go (Err e) h = record { says = w }

-- an answer of a step, with what is known behind it
pub goes_told : {room : ℕ} {after : Bytes} {w : Wrote} {r : Went} {p : Progress} → r ≡ going_of w p.is_first_block p.blank_line_due → Writes room after w p.out → Goes room after r p
goes_told {room} {after} {w} {r} {p} e x = record { says = subst (λ (g : Went). SaysGoing room after g p) (sym e) (go w x.says) }
  where
    go : (w : Wrote) → Says room after w p.out → SaysGoing room after (going_of w p.is_first_block p.blank_line_due) p
    go (Ok n) y = (y, refl, refl)
    go (Err _) y = y

pub goes_going : (isFirst due a b : Bool) (t : Bytes) (f : Step) {room : ℕ} {after : Bytes} {w : Wrote} {r : Went} → r ≡ going_of w isFirst due → Writes room after w (f t)
    → Goes room after r (going isFirst due (progress_at a b t) f)
unfolding going
goes_going isFirst due a b t f e x = goes_told e (alike (keep_then t f) x)

-- ---- a rule

pub rule_cell : (item : Item) (isFirst due : Bool) (mem : Bytes) (len : ℕ) → len ≤ length mem → item.ctx.opts.table_cell ≡ true
    → Goes (length mem) mem (Ok (record { len = len; first = isFirst; due = due || ltb item.start len })) (rule_block item (progress_at isFirst due (take len mem)))
unfolding rule_block keep
rule_cell item isFirst due mem len l e =
    let k = length-take-le len mem l in
    let d = due || ltb item.start (length (take len mem)) in
    goes_alike (yes _ _ e)
    (goes_going isFirst d isFirst due (take len mem) keep {w = Ok len} (ap (λ (m : ℕ). going_of (Ok len) isFirst (due || ltb item.start m)) (sym k)) (record { says = keeps mem len l }))

pub rule_line : (item : Item) (isFirst due : Bool) (t : Bytes) {room : ℕ} {after : Bytes} {w : Wrote} {r : Went} → item.ctx.opts.table_cell ≡ false → r ≡ going_of w false due
    → Writes room after w (rule_step item t) → Goes room after r (rule_block item (progress_at isFirst due t))
unfolding rule_block keep going
rule_line item isFirst due t e q x = goes_alike (no _ _ e) (goes_told q (alike (keep_then t (rule_of item t)) x))

-- ---- one behind the other

-- q begins where p ended
pub goes_then : {room : ℕ} {mid after : Bytes} {n : ℕ} (p q : Progress) {r : Went} → Written room mid n p.out → Goes room after r q → Goes room after r (joined p q)
goes_then {room} {mid} {after} {n} p q {r} w x = record { says = go r x.says }
  where
    go : (r : Went) → SaysGoing room after r q → SaysGoing room after r (joined p q)
    go (Ok g) y = (then_done (λ t. q.out) w y.0, y.1, y.2)
    go (Err _) y = then_full (λ t. q.out) w y

-- what an answer says in the arm of a `match` that has it
pub went : {room : ℕ} {after : Bytes} {r : Went} {g : At} {p : Progress} → r ≡ Ok g → Goes room after r p → SaysGoing room after (Ok g) p
went {room} {after} {r} {g} {p} e w = subst (λ (x : Went). SaysGoing room after x p) e w.says

pub went_full : {room : ℕ} {after : Bytes} {r : Went} {x : Full} {p : Progress} → r ≡ Err x → Goes room after r p → Refused room p.out
went_full {room} {after} {r} {p = p} e w = subst (λ (x : Went). SaysGoing room after x p) e w.says

-- G goes on from q, which ended with n bytes
module _ (G : Progress → Progress) (on : Onward G) (q : Progress) where
  pub goes_from : {room : ℕ} {mid after : Bytes} {g : At} {r : Went} → SaysGoing room mid (Ok g) q → Goes room after r (G (progress_of g mid)) → Goes room after r (G q)
  goes_from {room} {mid} {after} {g} {r} w x =
      let same : progress_of g mid ≡ afresh q = rw (w.1, w.2, w.0.text_is) in
      goes_alike (on q) (goes_then q (G (afresh q)) w.0 (subst (λ (u : Progress). Goes room after r (G u)) same x))

  pub goes_none : {room : ℕ} {after : Bytes} {e : Full} → Refused room q.out → Goes room after (Err e) (G q)
  goes_none w = goes_alike (on q) (record { says = refused (λ t. (G (afresh q)).out) w })

-- ---- sibling after sibling

-- whoever goes on by `rest` behind the first n bytes of `mid` answers for `whole`
pub record Left (room : ℕ) (mid : Bytes) (g : At) (rest : Progress → Progress) (whole : Progress) : Type 0 where
  pub long : length mid ≡ room
  pub reach : g.len ≤ length mid
  pub goes : (after : Bytes) (r : Went) → Goes room after r (rest (progress_of g mid)) → Goes room after r whole

module _ {room : ℕ} {mid : Bytes} {g : At} {rest : Progress → Progress} {whole : Progress} (p : Left room mid g rest whole) where
  -- F is what comes first, and G is left
  module _ (F G : Progress → Progress) (on : Onward G) (e : rest (progress_of g mid) ≡ G (F (progress_of g mid))) where
    left_on : {after : Bytes} {k : At} → SaysGoing (length mid) after (Ok k) (F (progress_of g mid)) → Left room after k G whole
    left_on {after} {k} w =
        let q = F (progress_of g mid) in
        let v : Written room after k.len q.out = subst (λ (j : ℕ). Written j after k.len q.out) p.long w.0 in
        record {
          long = v.long;
          reach = reaches v;
          goes = λ z r x. p.goes z r (goes_alike e (goes_from G on q (v, w.1, w.2) x));
        }

    left_over : {z : Bytes} {x : Full} → Refused (length mid) (F (progress_of g mid)).out → Goes room z (Err x) whole
    left_over {z} {x} w =
        let q = F (progress_of g mid) in
        let v : Refused room q.out = subst (λ (k : ℕ). Refused k q.out) p.long w in
        p.goes z (Err x) (goes_alike e (goes_none G on q v))

-- of the siblings from `from` up to `to` those from `at` on are left, whatever they are
pub record GoingOn (sh ns : Bytes) (from to : ℕ) (whole : Ancestors → Forest → Progress) (room : ℕ) (self : MDSerializer) (item : Item) (mem : Bytes) (at : ℕ) (k : At) : Type 0 where
  pub goes : (parent : ℕ) (f : Forest) (anc : Ancestors) → Rep sh ns parent from to f → Around sh ns parent anc
      → (g : Forest) × Rep sh ns parent at to g × Left room mem k (item_children self anc g item) (whole anc f)

children_first : (self : MDSerializer) (anc : Ancestors) (item : Item) (g : Forest) (p : Progress)
    → item_children self anc g item p ≡ item_children self anc (rest_of g) item (item_children self anc (head_of g) item p)
unfolding item_children head_of rest_of
children_first self anc item nothing p = refl
children_first self anc item (text s r) p = refl
children_first self anc item (comment s r) p = refl
children_first self anc item (element name attrs k r) p = refl

children_none : (self : MDSerializer) (anc : Ancestors) (item : Item) (p : Progress) → item_children self anc nothing item p ≡ p
unfolding item_children
children_none self anc item p = refl

pub going_first : (sh ns : Bytes) (from to : ℕ) (self : MDSerializer) (item : Item) (mem : Bytes) (k : At) → k.len ≤ length mem
    → GoingOn sh ns from to (λ anc f. item_children self anc f item (progress_of k mem)) (length mem) self item mem from k
going_first sh ns from to self item mem k l =
    record { goes = λ parent f anc h a. (f, h, record { long = refl; reach = l; goes = λ after r w. w }) }

module _ {sh ns : Bytes} {from to : ℕ} {whole : Ancestors → Forest → Progress} {room : ℕ} {self : MDSerializer} {item : Item} {mem : Bytes} {at : ℕ} {k : At}
    (p : GoingOn sh ns from to whole room self item mem at k) where
  module _ (l : at < to) {r : Went} {after : Bytes}
      (w : GoesForest sh ns at (end_at ns at) (λ anc f. item_children self anc f item (progress_of k mem)) (length mem) after r) where
    pub going_on : {e : ℕ} {m : At} → e ≡ end_at ns at → r ≡ Ok m → GoingOn sh ns from to whole room self item after e m
    going_on {e} {m} q u =
        record {
          goes = λ parent f anc h a.
              let s = p.goes parent f anc h a in
              let i = first sh ns parent at to s.0 s.1 l in (
                rest_of s.0,
                subst (λ (j : ℕ). Rep sh ns parent j to (rest_of s.0)) (sym q) i.after,
                left_on s.2 (item_children self anc (head_of s.0) item) (item_children self anc (rest_of s.0) item) (onward_children self item anc (rest_of s.0))
                    (children_first self anc item s.0 (progress_of k mem)) (went u (w.for parent (head_of s.0) anc i.alone a)),
              );
        }

    pub going_stop : {z : Bytes} {x y : Full} → r ≡ Err x → (parent : ℕ) (f : Forest) (anc : Ancestors) → Rep sh ns parent from to f → Around sh ns parent anc → Goes room z (Err y) (whole anc f)
    going_stop u parent f anc h a =
        let s = p.goes parent f anc h a in
        let i = first sh ns parent at to s.0 s.1 l in
        left_over s.2 (item_children self anc (head_of s.0) item) (item_children self anc (rest_of s.0) item) (onward_children self item anc (rest_of s.0))
        (children_first self anc item s.0 (progress_of k mem)) (went_full u (w.for parent (head_of s.0) anc i.alone a))

  -- none is left
  pub going_last : to ≤ at → (parent : ℕ) (f : Forest) (anc : Ancestors) → Rep sh ns parent from to f → Around sh ns parent anc → Goes room mem (Ok k) (whole anc f)
  going_last l parent f anc h a =
      let s = p.goes parent f anc h a in
      let b = progress_of k mem in
      let x : Written room mem k.len (keep (take k.len mem)) = subst (λ (j : ℕ). Written j mem k.len (keep (take k.len mem))) s.2.long (keeps mem k.len s.2.reach) in
      s.2.goes mem (Ok k)
      (goes_alike (ap (λ (g : Forest). item_children self anc g item b) (ended sh ns parent at to s.0 s.1 l) ∙ children_none self anc item b)
      (record { says = (x, refl, refl) }))

pub stops_forest : {sh ns : Bytes} {i e : ℕ} {step : Ancestors → Forest → Progress} {room : ℕ} {after : Bytes} {r : Went} → IsErr r
    → GoesForest sh ns i e step room after (Err (record {})) → GoesForest sh ns i e step room after r
stops_forest h w = record { for = λ parent f anc k a. goes_not h ((w.for parent f anc k a).says) }
