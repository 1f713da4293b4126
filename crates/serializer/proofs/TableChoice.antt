-- Whether a table is written as one.
use Prim.Native.Nat.{ℕ, ◌+◌, ◌≤◌, ◌<◌}
use native.Mathlib.Omega.{arith}
use mathlib.Core.Path.{◌≡◌, sym, ◌∙◌}
use mathlib.Core.Bool.{Bool, true, false}
use mathlib.Core.Logic.{⊎_elim}
use mathlib.Core.List.{List, ◌∷◌}
use Rattle.spec.specs.Bytes.{Bytes}
use Rattle.spec.specs.Tree.{Attr, Forest, nothing, element}
use Rattle.spec.specs.Md.Ctx.{fresh}
use Rattle.spec.specs.Md.MDSerializer.{Ancestors, MDSerializer, write_kids}
use Rattle.spec.specs.Md.Elements.Table.{Cell, rows_of, from_cells, data_rows, table_header_row, is_table_node_writable, row_texts, table_texts, table_of, write_table}
use Rattle.spec.specs.declared.ctx.FormatOpts.{FormatOpts}
use Rattle.spec.proofs.Order.{le_or_lt}
use Rattle.text.proofs.Writing.{yes, no}
use Rattle.text.specs.Writes.{Wrote}
use Rattle.tree.specs.Memory.{end_at, parent_at}
use Rattle.tree.specs.Represents.{Rep, Around}
use Rattle.nodes.specs.Stands.{ElementAt}
use Rattle.nodes.proofs.Interrupts.{element_kids}
use Rattle.elements.proofs.Languages.{around_it}
use Rattle.tables.specs.Rows.{Rows, RowsAt}
use Rattle.tables.specs.TableSteps.{rows_texts, RowsWrites}
use Rattle.tables.proofs.TableRows.{rows_of_lem, rows_at}

module _ (self : MDSerializer) (anc : Ancestors) (opts : FormatOpts) (name : Bytes) (attrs : List Attr) (kids : Forest) (t : Bytes) where
  pub table_written : is_table_node_writable kids (from_cells (rows_of (attrs ∷ anc) kids)) ≡ true
      → write_table self anc opts name attrs kids t
      ≡ table_of (row_texts self opts (table_header_row (from_cells (rows_of (attrs ∷ anc) kids)))) (table_texts self opts (data_rows (from_cells (rows_of (attrs ∷ anc) kids)))) t
  unfolding write_table
  table_written e = yes _ _ e

  pub table_flat : is_table_node_writable kids (from_cells (rows_of (attrs ∷ anc) kids)) ≡ false
      → write_table self anc opts name attrs kids t ≡ write_kids self anc (fresh opts) (element name attrs kids nothing) t
  unfolding write_table
  table_flat e = no _ _ e

-- the first row is before the end where the table is one
pub first_before : (first to : ℕ) {b : Bool} → b ≡ true → (to ≤ first → b ≡ false) → first < to
first_before first to {b} e f =
    ⊎_elim (λ (l : to ≤ first). let q : ◌≡◌ {A = Bool} true false = sym e ∙ f l in let z : ◌≡◌ {A = ℕ} 0 1 = cc in absurd (omega arith)) (λ (l : first < to). l) (le_or_lt to first)

-- ---- the rows below a table, whatever element it is and whatever stands around it

pub rows_below : (sh : Bytes) {ns : Bytes} {i d : ℕ} → d ≡ end_at ns i → (name : Bytes) (attrs : List Attr) (kids : Forest) (anc : Ancestors) → ElementAt sh ns i name attrs kids
    → Around sh ns (parent_at ns i) anc → Rows sh ns (i + 1) d (rows_of (attrs ∷ anc) kids)
rows_below sh {ns} {i} {d} e name attrs kids anc x h = rows_of_lem sh ns i (i + 1) d kids (attrs ∷ anc) (element_kids x e) (around_it anc x h) (omega arith)

-- node `first` is the first that has cells
module _ (first : ℕ) {sh ns : Bytes} {i d : ℕ} (e : d ≡ end_at ns i) (next : (rows : List (List Cell)) → Rows sh ns (i + 1) d rows → RowsAt sh ns first d (from_cells rows)) where
  pub filled_below : (name : Bytes) (attrs : List Attr) (kids : Forest) (anc : Ancestors) → ElementAt sh ns i name attrs kids → Around sh ns (parent_at ns i) anc
      → RowsAt sh ns first d (from_cells (rows_of (attrs ∷ anc) kids))
  filled_below name attrs kids anc x h = next (rows_of (attrs ∷ anc) kids) (rows_below sh e name attrs kids anc x h)

  pub writable_below : {b : Bool}
      → ((parent : ℕ) (kids : Forest) (rows : List (List Cell)) → Rep sh ns parent (i + 1) d kids → RowsAt sh ns first d rows → b ≡ is_table_node_writable kids rows)
      → (name : Bytes) (attrs : List Attr) (kids : Forest) (anc : Ancestors) → ElementAt sh ns i name attrs kids → Around sh ns (parent_at ns i) anc
      → b ≡ is_table_node_writable kids (from_cells (rows_of (attrs ∷ anc) kids))
  writable_below w name attrs kids anc x h = w i kids (from_cells (rows_of (attrs ∷ anc) kids)) (element_kids x e) (filled_below name attrs kids anc x h)

  pub cells_below : (self : MDSerializer) (opts : FormatOpts) {room : ℕ} {after t : Bytes} {stored : List (List ℕ)} {r : Wrote}
      → ((rows : List (List Cell)) → Rows sh ns first d rows → RowsWrites room after stored r (rows_texts self opts rows) t)
      → (name : Bytes) (attrs : List Attr) (kids : Forest) (anc : Ancestors) → ElementAt sh ns i name attrs kids → Around sh ns (parent_at ns i) anc
      → RowsWrites room after stored r (rows_texts self opts (from_cells (rows_of (attrs ∷ anc) kids))) t
  cells_below self opts w name attrs kids anc x h =
      let rows = from_cells (rows_of (attrs ∷ anc) kids) in w rows (rows_at sh ns first d rows (filled_below name attrs kids anc x h))
