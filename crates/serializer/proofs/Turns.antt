-- Loops that write sibling after sibling.
use Prim.Native.Nat.{ℕ, ◌≤◌, ◌<◌}
use mathlib.Core.Path.{◌≡◌, refl, ap, sym, subst, ◌∙◌}
use lib.ListN.{length, take}
use Rattle.spec.specs.Bytes.{Bytes}
use Rattle.spec.specs.Tree.{Forest, nothing}
use Rattle.spec.specs.Out.{Out, Step, keep, and_then}
use Rattle.spec.specs.Md.MDSerializer.{Ancestors}
use Rattle.tree.specs.Memory.{end_at}
use Rattle.tree.specs.Represents.{Rep, Around, head_of, rest_of}
use Rattle.tree.proofs.Firsts.{first, ended}
use Rattle.text.specs.Writes.{Writes}
use Rattle.text.specs.Writes.{Wrote, no_room}
use Rattle.std.specs.Prelude.{Ok}
use Rattle.text.proofs.Writing.{Owes, owes_all, owes_step, owes_stop, owes_none}
use Rattle.serializer.specs.Writers.{WritesForest}

-- of the siblings from `from` up to `to` those from `at` on are left, whatever they are: whoever writes them by `step` behind the first
-- n bytes of `text` answers for the whole
pub record Turn (sh ns : Bytes) (from to : ℕ) (whole : Ancestors → Forest → Out) (room : ℕ) (step : Ancestors → Forest → Step) (text : Bytes) (at n : ℕ) : Type 0 where
  pub goes : (parent : ℕ) (f : Forest) (anc : Ancestors) → Rep sh ns parent from to f → Around sh ns parent anc
      → (g : Forest) × Rep sh ns parent at to g × Owes room text n (step anc g) (whole anc f)

pub turn_first : (sh ns : Bytes) (from to : ℕ) (step : Ancestors → Forest → Step) (text : Bytes) (len : ℕ) → len ≤ length text
    → Turn sh ns from to (λ anc f. step anc f (take len text)) (length text) step text from len
turn_first sh ns from to step text len l =
    record { goes = λ parent f anc h a. (f, h, owes_all text len (step anc f) l refl) }

module _ {sh ns : Bytes} {from to : ℕ} {whole : Ancestors → Forest → Out} {room : ℕ} {step : Ancestors → Forest → Step} {text : Bytes} {at n : ℕ}
    (p : Turn sh ns from to whole room step text at n) where
  -- the first of those that are left is written by `head`, the others by `next`
  module _ (head next : Ancestors → Forest → Step) (e : (parent : ℕ) (anc : Ancestors) (g : Forest) → Rep sh ns parent at to g → (t : Bytes) → step anc g t ≡ and_then (head anc (head_of g) t) (next anc (rest_of g)))
      (l : at < to) {r : Wrote} {after : Bytes} (w : WritesForest sh ns at (end_at ns at) head (take n text) (length text) after r) where
    pub turn_on : {d m : ℕ} → d ≡ end_at ns at → r ≡ Ok m → Turn sh ns from to whole room next after d m
    turn_on {d} {m} q u =
        record {
          goes = λ parent f anc h a.
              let s = p.goes parent f anc h a in
              let k = first sh ns parent at to s.0 s.1 l in (
                rest_of s.0,
                subst (λ (j : ℕ). Rep sh ns parent j to (rest_of s.0)) (sym q) k.after,
                owes_step s.2 (head anc (head_of s.0)) (next anc (rest_of s.0)) (e parent anc s.0 s.1 (take n text)) u (w.for parent (head_of s.0) anc k.alone a),
              );
        }

    pub turn_stop : {z : Bytes} → r ≡ no_room → (parent : ℕ) (f : Forest) (anc : Ancestors) → Rep sh ns parent from to f → Around sh ns parent anc → Writes room z no_room (whole anc f)
    turn_stop {z} u parent f anc h a =
        let s = p.goes parent f anc h a in
        let k = first sh ns parent at to s.0 s.1 l in
        owes_stop s.2 (head anc (head_of s.0)) (next anc (rest_of s.0)) (e parent anc s.0 s.1 (take n text)) u (w.for parent (head_of s.0) anc k.alone a)

  -- none is left
  pub turn_last : to ≤ at → ((anc : Ancestors) (t : Bytes) → step anc nothing t ≡ keep t)
      → (parent : ℕ) (f : Forest) (anc : Ancestors) → Rep sh ns parent from to f → Around sh ns parent anc → Writes room text (Ok n) (whole anc f)
  turn_last l e parent f anc h a =
      let s = p.goes parent f anc h a in
      owes_none s.2 (ap (λ (g : Forest). step anc g (take n text)) (ended sh ns parent at to s.0 s.1 l) ∙ e anc (take n text))
