use Prim.Native.Nat.{◌+◌}
use mathlib.Core.Path.{◌≡◌}
use lib.ListN.{length}
use Rattle.tree.specs.Siblings.{Over}
use Rattle.tables.specs.Spans.{cell_lengths, sum, zeros}
use Rattle.tables.proofs.Gathering.{ChildFrom}
use Rattle.tables.proofs.table.measure.Given as goal

abbrev pub invariant-loop-c : goal.invariant-loop-c
invariant-loop-c l = Over l.tree.sheet.now l.tree.nodes.now l.c-iterator.next l.to l.c-iterator
    × ChildFrom l.tree.sheet.now l.tree.nodes.now l.row l.c-iterator.next l.to
    × (l.cells + length (cell_lengths l.tree.sheet.now l.tree.nodes.now l.row l.c-iterator.next l.to) ≡ length (cell_lengths l.tree.sheet.now l.tree.nodes.now l.row (l.row + 1) l.to))
    × (l.bytes + sum (cell_lengths l.tree.sheet.now l.tree.nodes.now l.row l.c-iterator.next l.to) ≡ sum (cell_lengths l.tree.sheet.now l.tree.nodes.now l.row (l.row + 1) l.to))
    × (l.empty + zeros (cell_lengths l.tree.sheet.now l.tree.nodes.now l.row l.c-iterator.next l.to) ≡ zeros (cell_lengths l.tree.sheet.now l.tree.nodes.now l.row (l.row + 1) l.to))
