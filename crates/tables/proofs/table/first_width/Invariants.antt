use mathlib.Core.Path.{◌≡◌}
use Rattle.tables.specs.Rows.{SomeRows}
use Rattle.tables.specs.Spans.{line_lengths, width}
use Rattle.tables.proofs.table.first_width.Given as goal

abbrev pub invariant-loop-r : goal.invariant-loop-r
invariant-loop-r l = SomeRows l.tree.sheet.now l.tree.nodes.now l.r l.to × (width (line_lengths l.tree.sheet.now l.tree.nodes.now l.from l.to) ≡ width (line_lengths l.tree.sheet.now l.tree.nodes.now l.r l.to))
