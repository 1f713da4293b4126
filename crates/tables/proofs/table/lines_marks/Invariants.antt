use Prim.Native.Nat.{◌+◌}
use mathlib.Core.Path.{◌≡◌}
use Rattle.tables.specs.Rows.{SomeRows}
use Rattle.tables.specs.Spans.{table_lengths, filled, marks}
use Rattle.tables.proofs.table.lines_marks.Given as goal

abbrev pub invariant-loop-r : goal.invariant-loop-r
invariant-loop-r l = SomeRows l.tree.sheet.now l.tree.nodes.now l.r l.to × (l.n + marks (filled (table_lengths l.tree.sheet.now l.tree.nodes.now l.r l.to)) ≡ marks (filled (table_lengths l.tree.sheet.now l.tree.nodes.now l.from l.to)))
