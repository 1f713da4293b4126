use mathlib.Core.Path.{◌≡◌}
use mathlib.Core.List.{List}
use Rattle.spec.specs.Md.Elements.Table.{Cell, all_th}
use Rattle.tree.specs.Memory.{end_at}
use Rattle.tree.specs.Siblings.{Over}
use Rattle.tables.specs.Rows.{RowAt}
use Rattle.tables.proofs.TableCells.{CellsAt}
use Rattle.tables.proofs.rows.all_th.Given as goal

abbrev pub invariant-loop-c : goal.invariant-loop-c
invariant-loop-c l = Over l.tree.sheet.now l.tree.nodes.now l.c-iterator.next (end_at l.tree.nodes.now l.i) l.c-iterator
    × ((row : List Cell) → RowAt l.tree.sheet.now l.tree.nodes.now l.i row
    → (left : List Cell) × CellsAt l.tree.sheet.now l.tree.nodes.now l.i l.c-iterator.next left × (all_th row ≡ all_th left))
