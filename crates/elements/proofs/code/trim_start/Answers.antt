use Rattle.std.proofs.Common.{sym, ap, ◌∙◌, arith, length, length-drop}
use Rattle.spec.specs.Bytes.{trim_from}
use Rattle.text.proofs.Reading.{rest_part}
use Rattle.elements.proofs.WhiteStarts.{width_fits, start_here, start_goes}
use Rattle.elements.proofs.code.trim_start.Goals as goal

pub returns-then-n-eq0 : goal.returns-then-n-eq0
returns-then-n-eq0 c = let r = c.loop-rest.rest.now in sym (c.loop-rest.invariant ∙ start_here r (sym c.white_width-n.ensures ∙ c.if-n-eq0.true))

pub loop-rest-smaller : goal.loop-rest-smaller
loop-rest-smaller c =
    let r = c.loop-rest.rest.now in let n = c.white_width-n.result in
    omega (arith, ap length (rest_part n r), length-drop n r, width_fits r, c.white_width-n.ensures, c.if-n-eq0.false)

pub loop-rest-preserved : goal.loop-rest-preserved
loop-rest-preserved c =
    let r = c.loop-rest.rest.now in let n = c.white_width-n.result in
    c.loop-rest.invariant ∙ (start_goes r n (sym c.white_width-n.ensures) ∙ sym (ap (trim_from 0) (rest_part n r)))

pub slice_bounds-rest-count : goal.slice_bounds-rest-count
slice_bounds-rest-count c = omega (arith, width_fits c.loop-rest.rest.now, c.white_width-n.ensures)

pub slice_bounds-rest-start : goal.slice_bounds-rest-start
slice_bounds-rest-start c = omega (arith, width_fits c.loop-rest.rest.now, c.white_width-n.ensures)
