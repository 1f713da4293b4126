-- Loops that append something for the text of each node of a range.
use Prim.Native.Nat.{ℕ, ◌+◌, ◌≤◌, ◌<◌}
use native.Mathlib.Omega.{arith}
use mathlib.Core.Path.{◌≡◌, refl, ap, ◌∙◌, sym}
use mathlib.Core.List.{[], ◌++◌}
use Rattle.spec.specs.Bytes.{Bytes}
use Rattle.spec.specs.Out.{push, and_then}
use Rattle.spec.specs.Tree.{Forest, text_of}
use Rattle.tree.specs.Memory.{place_at}
use Rattle.tree.specs.Nodes.{text_at}
use Rattle.tree.specs.Represents.{Rep}
use Rattle.tree.proofs.Ranges.{text_pieces}
use Rattle.std.specs.Prelude.{Ok, Err}
use Rattle.std.specs.Result.{IsErr}
use Rattle.text.specs.declared.buffer.Full.{Full}
use Rattle.text.specs.declared.text.Text.{Text}
use Rattle.text.specs.Texts.{bytes, WritesTo}
use Rattle.text.proofs.Texts.{Answer, Owes, owes_step, owes_stop, owes_last, as_step, pushes_nothing}
use Rattle.text.proofs.Writing.{push_both}
use Rattle.nodes.specs.Stands.{Siblings, NodeAt}
use Rattle.nodes.proofs.Numbers.{node_in, pieces, pieces_on, pieces_none}

-- what a text appends in a state, and the state behind it
pub record Spells {S : Type 0} (out : S → Bytes → Bytes) (go : S → Bytes → S) : Type 0 where
  pub none : (x : S) → out x [] ≡ []
  pub joins : (x : S) (s t : Bytes) → out x (s ++ t) ≡ out x s ++ out (go x s) t

-- a loop that has come to node i in state x, of what all texts append from state a
pub record Appends {S : Type 0} (out : S → Bytes → Bytes) (sh ns : Bytes) (from e : ℕ) (a : S) (before now : Text) (i : ℕ) (x : S) : Type 0 where
  pub later : from ≤ i
  pub owes : Owes before now (push (out x (pieces sh ns e i))) (push (out a (pieces sh ns e from)))

module _ {S : Type 0} {out : S → Bytes → Bytes} {sh ns : Bytes} {from e : ℕ} {a : S} {before now : Text} {i : ℕ} {x : S} (c : Appends out sh ns from e a before now i x) where
  pub appends_node : Siblings sh ns from e → i < e → NodeAt sh ns i
  appends_node s l = node_in sh ns i from e s c.later l

  module _ {go : S → Bytes → S} (w : Spells out go) where
    -- the texts are those of a forest
    forest_is : (parent : ℕ) (f : Forest) → Rep sh ns parent from e f → push (out a (text_of f)) (bytes before) ≡ push (out a (pieces sh ns e from)) (bytes before)
    forest_is parent f h = ap (λ (s : Bytes). push (out a s) (bytes before)) (text_pieces sh ns parent from e f h)

    -- the text of node i is s
    module _ {s : Bytes} (l : i < e) (h : s ≡ text_at sh (place_at ns i)) where
      turn : {y : S} → y ≡ go x s → push (out x (pieces sh ns e i)) (bytes now) ≡ and_then (push (out x s) (bytes now)) (push (out y (pieces sh ns e (i + 1))))
      turn {y} r =
          ap (λ (z : Bytes). push z (bytes now))
          (ap (out x) (pieces_on sh ns e i l h) ∙ (w.joins x s (pieces sh ns e (i + 1)) ∙ ap (λ (z : S). out x s ++ out z (pieces sh ns e (i + 1))) (sym r)))
          ∙ push_both (out x s) (out y (pieces sh ns e (i + 1))) (bytes now)

      module _ {after : Text} {r : Answer} (v : WritesTo now after r (push (out x s))) where
        pub appends_on : {u : Unit {0}} {y : S} → y ≡ go x s → r ≡ Ok u → Appends out sh ns from e a before after (i + 1) y
        appends_on {y = y} g d =
            record {
              later = omega (arith, c.later);
              owes = owes_step c.owes (push (out y (pieces sh ns e (i + 1)))) (turn g) d v;
            }

        pub appends_stop : {f : Full} {z : Answer} → r ≡ Err f → IsErr z → (parent : ℕ) (h : Forest) → Rep sh ns parent from e h → WritesTo before after z (push (out a (text_of h)))
        appends_stop d g parent f k =
            as_step (forest_is parent f k) (owes_stop c.owes (push (out (go x s) (pieces sh ns e (i + 1)))) (turn refl) d v g)

    pub appends_end : e ≤ i → (parent : ℕ) (f : Forest) → Rep sh ns parent from e f → WritesTo before now (Ok tt) (push (out a (text_of f)))
    appends_end l parent f k =
        as_step (forest_is parent f k)
        (owes_last c.owes (ap (λ (z : Bytes). push z (bytes now)) (ap (out x) (pieces_none sh ns e i l) ∙ w.none x)) (pushes_nothing now))
