use Rattle.std.proofs.Common.{sym, ◌∙◌, arith}
use Rattle.text.proofs.Reading.{ends_long}
use Rattle.marks.proofs.Leaves.{exact_not, exact_is}
use Rattle.marks.proofs.emphasis.is_exact_marker_end.Goals as goal

pub returns-then-not-ends_with : goal.returns-then-not-ends_with
returns-then-not-ends_with c = sym (exact_not c.args.tail.now c.args.marker.now (sym c.ends_with.ensures ∙ c.if-not-ends_with.true))

pub slice_bounds-before-count : goal.slice_bounds-before-count
slice_bounds-before-count c = omega (arith, ends_long c.args.tail.now c.args.marker.now (sym c.ends_with.ensures ∙ c.if-not-ends_with.false))

pub returns : goal.returns
returns c =
    exact_is c.args.tail.now c.args.marker.now c.is_byte.result c.ends_with_byte.result c.backslashes-count.result (sym c.ends_with.ensures ∙ c.if-not-ends_with.false) c.is_byte.ensures c.ends_with_byte.ensures c.backslashes-count.ensures
