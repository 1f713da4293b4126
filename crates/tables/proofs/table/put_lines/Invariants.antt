use Prim.Native.Nat.{◌+◌, ◌≤◌}
use mathlib.Core.Path.{◌≡◌}
use lib.ListN.{drop}
use Rattle.spec.specs.Md.Elements.Table.{concat}
use Rattle.tables.specs.Puts.{bar_lines}
use Rattle.tables.specs.Rows.{SomeRows}
use Rattle.tables.specs.Spans.{table_lengths, filled, sum, cut_rows}
use Rattle.tables.proofs.Putting.{Due}
use Rattle.tables.proofs.table.put_lines.Given as goal

abbrev pub invariant-loop-r : goal.invariant-loop-r
invariant-loop-r l = SomeRows l.tree.sheet.now l.tree.nodes.now l.r l.to
    × Due l.initial.text l.text (bar_lines (cut_rows (filled (table_lengths l.tree.sheet.now l.tree.nodes.now l.r l.to)) (drop l.at l.initial.text.room.now))) (bar_lines (cut_rows (filled (table_lengths l.tree.sheet.now l.tree.nodes.now l.from l.to)) (drop l.src l.initial.text.room.now)))
    × (l.src ≤ l.at) × (l.at + sum (concat (filled (table_lengths l.tree.sheet.now l.tree.nodes.now l.r l.to))) ≡ l.src + sum (concat (filled (table_lengths l.tree.sheet.now l.tree.nodes.now l.from l.to))))
