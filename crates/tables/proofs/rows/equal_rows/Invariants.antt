use mathlib.Core.Path.{◌≡◌}
use mathlib.Core.List.{List}
use Rattle.spec.specs.Md.Elements.Table.{Cell, equal_rows}
use Rattle.tables.specs.Rows.{Rows}
use Rattle.tables.proofs.rows.equal_rows.Given as goal

abbrev pub invariant-loop-r : goal.invariant-loop-r
invariant-loop-r l = (rows : List (List Cell)) → Rows l.tree.sheet.now l.tree.nodes.now l.from l.to rows
    → (left : List (List Cell)) × Rows l.tree.sheet.now l.tree.nodes.now l.r l.to left × (equal_rows 0 rows ≡ equal_rows l.common left)
