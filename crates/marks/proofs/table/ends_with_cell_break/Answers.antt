use mathlib.Core.Path.{sym, ◌∙◌}
use Rattle.spec.specs.Bytes.{ascii}
use Rattle.text.proofs.Reading.{ends_long}
use Rattle.marks.proofs.Leaves.{cell_not, cell_is}
use native.Mathlib.Omega.{arith}
use Rattle.marks.proofs.table.ends_with_cell_break.Goals as goal

pub returns-then-not-ends_with : goal.returns-then-not-ends_with
returns-then-not-ends_with c =
    sym (cell_not c.args.s.now (sym c.ends_with.ensures ∙ c.if-not-ends_with.true))

pub overflow_sub-n : goal.overflow_sub-n
overflow_sub-n c =
    omega (arith, ends_long c.args.s.now (ascii "<br>") (sym c.ends_with.ensures ∙ c.if-not-ends_with.false))

pub returns : goal.returns
returns c =
    cell_is c.args.s.now c.backslashes.result (sym c.ends_with.ensures ∙ c.if-not-ends_with.false) c.backslashes.ensures
