use Prim.Native.Nat.{◌≤◌}
use mathlib.Core.Path.{◌≡◌}
use mathlib.Core.List.{List}
use Rattle.spec.specs.Md.Elements.Table.{Cell, from_cells}
use Rattle.tables.specs.Rows.{Rows}
use Rattle.tables.proofs.rows.next_filled_row.Given as goal

abbrev pub invariant-loop-r : goal.invariant-loop-r
invariant-loop-r l = (l.i ≤ l.r) × ((rows : List (List Cell)) → Rows l.tree.sheet.now l.tree.nodes.now l.i l.to rows
    → (left : List (List Cell)) × Rows l.tree.sheet.now l.tree.nodes.now l.r l.to left × (from_cells rows ≡ from_cells left))
