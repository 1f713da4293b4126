use Prim.Native.Nat.{◌+◌, ◌≤◌}
use mathlib.Core.Path.{◌≡◌}
use lib.ListN.{drop}
use Rattle.tree.specs.Siblings.{Over}
use Rattle.tables.specs.Puts.{bars}
use Rattle.tables.specs.Spans.{cell_lengths, sum}
use Rattle.tables.specs.Columns.{columns}
use Rattle.tables.proofs.Gathering.{ChildFrom}
use Rattle.tables.proofs.Putting.{Due}
use Rattle.tables.proofs.table.put_columns.Given as goal

abbrev pub invariant-loop-c : goal.invariant-loop-c
invariant-loop-c l = Over l.tree.sheet.now l.tree.nodes.now l.c-iterator.next l.to l.c-iterator
    × ChildFrom l.tree.sheet.now l.tree.nodes.now l.row l.c-iterator.next l.to
    × Due l.initial.text l.text (bars (columns l.under (cell_lengths l.tree.sheet.now l.tree.nodes.now l.row l.c-iterator.next l.to) (drop l.at l.initial.text.room.now))) (bars (columns l.under (cell_lengths l.tree.sheet.now l.tree.nodes.now l.row (l.row + 1) l.to) (drop l.src l.initial.text.room.now)))
    × (l.src ≤ l.at) × (l.at + sum (cell_lengths l.tree.sheet.now l.tree.nodes.now l.row l.c-iterator.next l.to) ≡ l.src + sum (cell_lengths l.tree.sheet.now l.tree.nodes.now l.row (l.row + 1) l.to))
