-- What is stored in the scratch of a cell, and what it leaves of other cells'.
use Prim.Native.Nat.{ℕ, zero, suc, ◌+◌, ◌-◌, ◌*◌, ◌≤◌, ◌<◌}
use native.Mathlib.Omega.{arith}
use mathlib.Core.Path.{◌≡◌, refl, ap, ap₂, ◌∙◌}
use mathlib.Core.Logic.{◌⊎◌, inl, inr, ⊎_elim}
use mathlib.Core.Bool.{Bool, true, false, cond, ◌&&◌}
use mathlib.Core.List.{List, [], ◌∷◌, ◌++◌}
use lib.Dec.{eqb}
use borrow.Author.Tests.{eqb-true}
use Rattle.spec.specs.Bytes.{Bytes}
use Rattle.spec.specs.Tree.{Forest}
use Rattle.spec.specs.Md.Elements.Table.{is_table_cell}
use Rattle.tree.specs.Memory.{quad_at, long_at, Stored, place_at, end_at, parent_at, start_at, length_at, Kept}
use Rattle.tree.specs.Nodes.{name_at}
use Rattle.tree.specs.Represents.{Rep}
use Rattle.spec.proofs.Order.{le_or_lt}
use Rattle.tree.proofs.Numbers.{Agree, quad_same}
use Rattle.tree.proofs.Frames.{kept_then, scratch_kept, place_kept, end_kept, parent_kept}
use Rattle.tables.specs.Spans.{gather, length_if, cell_lengths, row_lengths, row_if, table_lengths}
use Rattle.tables.proofs.TableRows.{parents_in}

long_same : (a b : Bytes) (j : ℕ) → Agree a b j 8 → long_at b j ≡ long_at a j
unfolding long_at
long_same a b j g =
    let p : quad_at b j ≡ quad_at a j = quad_same a b j (λ i l h. g i l (omega arith)) in
    let q : quad_at b (j + 4) ≡ quad_at a (j + 4) = quad_same a b (j + 4) (λ i l h. g i (omega arith) (omega arith)) in
    cc

-- both numbers of a span
pub span_stored : (i v w : ℕ) {a b c : Bytes} → Stored long_at 8 (i * 24 + 8) v a b → Stored long_at 8 (i * 24 + 16) w b c
    → Kept i (i + 1) a c × (start_at c i ≡ v) × (length_at c i ≡ w)
span_stored i v w {a} {b} {c} p q = (
  kept_then (scratch_kept i 8 v (omega arith) (omega arith) p) (scratch_kept i 16 w (omega arith) (omega arith) q),
  long_same b c (i * 24 + 8) (λ k l h. q.before k (omega arith)) ∙ p.value,
  q.value,
)

-- ---- lengths that are kept

gather_same : {A : Type 0} (f g : ℕ → List A) (n i : ℕ) → ((j : ℕ) → i ≤ j → j < i + n → f j ≡ g j) → gather f n i ≡ gather g n i
unfolding gather
gather_same f g zero i h = refl
gather_same f g (suc n) i h = ap₂ (λ x y. x ++ y) (h i (omega arith) (omega arith)) (gather_same f g n (suc i) (λ j l m. h j (omega arith) (omega arith)))

module _ {from to : ℕ} {a b : Bytes} (p : Kept from to a b) where
  length_kept : (j : ℕ) → (j < from) ⊎ (to ≤ j) → length_at b j ≡ length_at a j
  length_kept j o = long_same a b (j * 24 + 16) (λ k l h. ⊎_elim (λ (q : j < from). p.below k (omega arith)) (λ (q : to ≤ j). p.above k (omega arith)) o)

  module _ (sh : Bytes) where
    -- a cell outside of the range, or no cell of row r
    length_if_kept : (r j : ℕ) → (parent_at a j ≡ r → (j < from) ⊎ (to ≤ j)) → length_if sh b r j ≡ length_if sh a r j
    unfolding length_if
    length_if_kept r j o = rw (place_kept p j, parent_kept p j) (go (eqb (parent_at a j) r) refl)
      where
        go : (t : Bool) → eqb (parent_at a j) r ≡ t → cond (t && is_table_cell (name_at sh (place_at a j))) (length_at b j ∷ []) [] ≡ cond (t && is_table_cell (name_at sh (place_at a j))) (length_at a j ∷ []) []
        go true e = ap (λ (n : ℕ). cond (is_table_cell (name_at sh (place_at a j))) (n ∷ []) []) (length_kept j (o (eqb-true (parent_at a j) r e)))
        go false e = refl

    -- cells before the range
    pub cells_kept : (r i e : ℕ) → e ≤ from → cell_lengths sh b r i e ≡ cell_lengths sh a r i e
    cells_kept r i e l = gather_same (length_if sh b r) (length_if sh a r) (e - i) i (λ j u v. length_if_kept r j (λ q. inl (omega arith)))

-- what stores only below node d keeps the lengths of the rows before it: in it no node has a parent before d
module _ (d : ℕ) {a b : Bytes} (sh : Bytes) (kids : Forest) (h : Rep sh a d (d + 1) (end_at a d) kids) (p : Kept (d + 1) (end_at a d) a b) where
  row_kept_before : (r : ℕ) → r < d → row_lengths sh b r ≡ row_lengths sh a r
  row_kept_before r l =
      ap (cell_lengths sh b r (r + 1)) (end_kept p r)
      ∙ gather_same (length_if sh b r) (length_if sh a r) (end_at a r - (r + 1)) (r + 1) (λ j u v. length_if_kept p sh r j (λ q. apart j q))
    where
      apart : (j : ℕ) → parent_at a j ≡ r → (j < d + 1) ⊎ (end_at a d ≤ j)
      apart j q =
          ⊎_elim (λ (m : end_at a d ≤ j). inr m) (λ (m : j < end_at a d). ⊎_elim (λ (n : j ≤ d). inl (omega arith)) (λ (n : d < j). absurd (omega (arith, parents_in sh a d j (end_at a d) kids h n m))) (le_or_lt j d))
          (le_or_lt (end_at a d) j)

  pub rows_kept_before : (i : ℕ) → table_lengths sh b i d ≡ table_lengths sh a i d
  rows_kept_before i = gather_same (row_if sh b) (row_if sh a) (d - i) i (λ j l m. same j (omega arith))
    where
      same : (j : ℕ) → j < d → row_if sh b j ≡ row_if sh a j
      same j m = unfold row_if in ap₂ (λ (n : ℕ) (z : List ℕ). cond (eqb (name_at sh n) 17) (z ∷ []) []) (place_kept p j) (row_kept_before j m)
