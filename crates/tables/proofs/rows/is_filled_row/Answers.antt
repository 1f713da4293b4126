use Prim.Native.Nat.{ℕ}
use native.Mathlib.Omega.{arith}
use mathlib.Core.Path.{◌≡◌, ap, ◌∙◌}
use mathlib.Core.Bool.{not}
use mathlib.Core.List.{List, [], ◌∷◌}
use lib.ListN.{length}
use lib.Dec.{eqb}
use borrow.Author.Tests.{ne_eqb}
use Rattle.spec.specs.Bytes.{null}
use Rattle.spec.specs.Md.Elements.Table.{Cell}
use Rattle.tables.proofs.TableRows.{row_name}
use Rattle.tables.proofs.rows.is_filled_row.Goals as goal

counted : (n : ℕ) (row : List Cell) → n ≡ length row → not (eqb n 0) ≡ not (null row)
unfolding null
counted n [] e = ap (λ (k : ℕ). not (eqb k 0)) e
counted n (x ∷ row) e = ap not (ne_eqb n 0 (λ q. omega (arith, e, q)))

pub returns-then-node_name-eq-TR-clause-filled : goal.returns-then-node_name-eq-TR-clause-filled
returns-then-node_name-eq-TR-clause-filled c = λ row x. counted c.count_cells.result row (c.count_cells.ensures row x)

pub returns-else-node_name-eq-TR-clause-filled : goal.returns-else-node_name-eq-TR-clause-filled
returns-else-node_name-eq-TR-clause-filled c = λ row x. absurd (c.if-node_name-eq-TR.false (c.node_name.ensures ∙ row_name x))
