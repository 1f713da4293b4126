use Prim.Native.Nat.{◌+◌, ◌≤◌}
use mathlib.Core.Path.{◌≡◌}
use mathlib.Core.List.{List}
use lib.ListN.{length}
use Rattle.spec.specs.Md.Elements.Table.{Cell}
use Rattle.tree.specs.Memory.{end_at}
use Rattle.tree.specs.Siblings.{Over}
use Rattle.tables.specs.Rows.{RowAt}
use Rattle.tables.proofs.TableCells.{CellsAt}
use Rattle.tables.proofs.rows.count_cells.Given as goal

abbrev pub invariant-loop-c : goal.invariant-loop-c
invariant-loop-c l = Over l.tree.sheet.now l.tree.nodes.now l.c-iterator.next (end_at l.tree.nodes.now l.i) l.c-iterator × (l.n ≤ l.c-iterator.next)
    × ((row : List Cell) → RowAt l.tree.sheet.now l.tree.nodes.now l.i row
    → (left : List Cell) × CellsAt l.tree.sheet.now l.tree.nodes.now l.i l.c-iterator.next left × (l.n + length left ≡ length row))
