-- The tests of `elements/table.rs` on rows, from row to row.
use Prim.Native.Nat.{ℕ, zero, suc, ◌+◌, ◌≤◌, ◌<◌}
use native.Mathlib.Omega.{arith}
use mathlib.Core.Path.{◌≡◌, refl, ap, ◌∙◌, sym, subst}
use mathlib.Core.Bool.{Bool, true, false, cond, not, ◌&&◌, true≢false, false≢true}
use mathlib.Core.List.{List, [], ◌∷◌}
use lib.ListN.{length}
use lib.Dec.{eqb}
use borrow.Author.Tests.{eqb-true, ne_eqb, not-true}
use Rattle.spec.specs.Bytes.{Bytes, null}
use Rattle.spec.specs.Tree.{Forest}
use Rattle.spec.specs.Md.Elements.Link.{has_element}
use Rattle.spec.specs.Md.Elements.Table.{Cell, from_cells, all_th, data_rows, equal_rows, is_table_node_writable}
use Rattle.tables.specs.Rows.{RowAt, Rows, RowsAt, SomeRow}
use Rattle.tables.proofs.TableRows.{rows_at, rows_le}

module _ (sh ns : Bytes) (r e : ℕ) where
  pub no_rows : (rows : List (List Cell)) → RowsAt sh ns r e rows → e ≤ r → rows ≡ []
  unfolding RowsAt
  no_rows [] x l = refl
  no_rows (row ∷ rows) x l = absurd (omega (arith, rows_le sh ns (r + 1) e rows x.1))

  -- whether the table can be written; row r is its first that has cells
  pub writable_none : (kids : Forest) (rows : List (List Cell)) → RowsAt sh ns r e rows → e ≤ r → is_table_node_writable kids rows ≡ false
  unfolding is_table_node_writable null
  writable_none kids rows x l = ap (is_table_node_writable kids) (no_rows rows x l)

  pub writable_some : (kids : Forest) (rows : List (List Cell)) → RowsAt sh ns r e rows → r < e
      → is_table_node_writable kids rows ≡ (not (has_element 14 kids) && equal_rows 0 (data_rows rows))
  unfolding is_table_node_writable null RowsAt
  writable_some kids [] x l = absurd (omega arith)
  writable_some kids (row ∷ rows) x l = refl

module _ {sh ns : Bytes} {r e : ℕ} where
  pub some_row : (rows : List (List Cell)) → RowsAt sh ns r e rows → r < e → SomeRow sh ns r
  unfolding RowsAt
  some_row [] x l = absurd (omega arith)
  some_row (row ∷ rows) x l = (row, x.0)

  -- ---- t says whether row r has cells

  module _ {t : Bool} (n : (row : List Cell) → RowAt sh ns r row → t ≡ not (null row)) where
    pub filled_here : (rows : List (List Cell)) → RowsAt sh ns r e rows → r < e → t ≡ true → RowsAt sh ns r e (from_cells rows)
    unfolding RowsAt from_cells null
    filled_here [] x l q = x
    filled_here ([] ∷ rows) x l q = absurd (true≢false (sym q ∙ n [] x.0))
    filled_here ((c ∷ row) ∷ rows) x l q = x

    pub filled_on : (rows : List (List Cell)) → RowsAt sh ns r e rows → r < e → t ≡ false
        → (more : List (List Cell)) × Rows sh ns (r + 1) e more × (from_cells rows ≡ from_cells more)
    unfolding RowsAt from_cells null
    filled_on [] x l q = absurd (omega arith)
    filled_on ([] ∷ rows) x l q = (rows, x.1, refl)
    filled_on ((c ∷ row) ∷ rows) x l q = absurd (false≢true (sym q ∙ n (c ∷ row) x.0))

  -- ---- row r has k cells

  module _ (k : ℕ) (n : (row : List Cell) → RowAt sh ns r row → k ≡ length row) where
    pub equal_no : (common : ℕ) (rows : List (List Cell)) → RowsAt sh ns r e rows → r < e → (not (eqb common 0) && not (eqb k common)) ≡ true
        → equal_rows common rows ≡ false
    unfolding RowsAt equal_rows
    equal_no common [] x l q = absurd (omega arith)
    equal_no zero (row ∷ rows) x l q = absurd (false≢true q)
    equal_no (suc m) (row ∷ rows) x l q =
        rw (sym (n row x.0), not-true (eqb k (suc m)) (sym (rw (ne_eqb (suc m) 0 (λ z. omega (arith, z)))) ∙ q))

    pub equal_on : (common : ℕ) (rows : List (List Cell)) → RowsAt sh ns r e rows → r < e → (not (eqb common 0) && not (eqb k common)) ≡ false
        → (more : List (List Cell)) × Rows sh ns (r + 1) e more × (equal_rows common rows ≡ equal_rows k more)
    unfolding RowsAt equal_rows
    equal_on common [] x l q = absurd (omega arith)
    equal_on zero (row ∷ rows) x l q = (rows, x.1, ap (λ (m : ℕ). equal_rows m rows) (sym (n row x.0)))
    equal_on (suc m) (row ∷ rows) x l q = (rows, x.1, same (eqb k (suc m)) refl q)
      where
        same : (t : Bool) → eqb k (suc m) ≡ t → (not (eqb (suc m) 0) && not t) ≡ false → (eqb (length row) (suc m) && equal_rows (suc m) rows) ≡ equal_rows k rows
        same true p q = rw (sym (n row x.0), p) (ap (λ (j : ℕ). equal_rows j rows) (sym (eqb-true k (suc m) p)))
        same false p q = absurd (true≢false (sym (rw (ne_eqb (suc m) 0 (λ z. omega (arith, z)))) ∙ q))

  -- ---- whether row r is the heading

  module _ {t : Bool} (n : (row : List Cell) → RowAt sh ns r row → t ≡ all_th row) where
    pub data_behind : (rows : List (List Cell)) → RowsAt sh ns r e rows → r < e → t ≡ true → Rows sh ns (r + 1) e (data_rows rows)
    unfolding RowsAt data_rows
    data_behind [] x l q = absurd (omega arith)
    data_behind (row ∷ rows) x l q = subst (λ (b : Bool). Rows sh ns (r + 1) e (cond b rows (row ∷ rows))) (sym q ∙ n row x.0) x.1

    pub data_here : (rows : List (List Cell)) → RowsAt sh ns r e rows → r < e → t ≡ false → Rows sh ns r e (data_rows rows)
    unfolding RowsAt data_rows
    data_here [] x l q = absurd (omega arith)
    data_here (row ∷ rows) x l q =
        subst (λ (b : Bool). Rows sh ns r e (cond b rows (row ∷ rows))) (sym q ∙ n row x.0) (rows_at sh ns r e (row ∷ rows) x)
