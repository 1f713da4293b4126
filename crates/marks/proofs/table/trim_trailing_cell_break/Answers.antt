use Rattle.std.proofs.Common.{◌≡◌, ◌-◌, ◌≤◌, ap, sym, ◌∙◌, arith, length, take, take-take}
use Rattle.std.proofs.Math.Seq.{length-take-le}
use Rattle.marks.proofs.Leaves.{cell_long, breaks_end, breaks_on}
use Rattle.marks.proofs.table.trim_trailing_cell_break.Goals as goal

pub slice_bounds-front-count : goal.slice_bounds-front-count
slice_bounds-front-count c = omega (arith, cell_long c.loop-rest.rest.now (sym c.loop-rest-test.ensures))

pub loop-rest-smaller : goal.loop-rest-smaller
loop-rest-smaller c =
    let r = c.loop-rest.rest.now in let f = take (length r - 4) r in let m = c.trim_trailing_space.result in let w = c.trim_trailing_space.ensures.within in
    omega (arith, cell_long r (sym c.loop-rest-test.ensures), w, length-take-le (length r - 4) r (omega arith), length-take-le m f w)

pub loop-rest-preserved : goal.loop-rest-preserved
loop-rest-preserved c =
    let s = c.args.s.now in let i = c.loop-rest.invariant in
    let r = c.loop-rest.rest.now in let f = take (length r - 4) r in let m = c.trim_trailing_space.result in let w = c.trim_trailing_space.ensures.within in
    let l : length (take m f) ≡ m = length-take-le m f w in
    let k : length f ≡ length r - 4 = length-take-le (length r - 4) r (omega arith) in
    let four : 4 ≤ length r = cell_long r (sym c.loop-rest-test.ensures) in
    let fits : m ≤ length r = omega (arith, w, k) in
    let same : take m f ≡ take m s = take-take m (length r - 4) r (omega (arith, w, k)) ∙ ap (take m) (sym i.front) ∙ take-take m (length r) s fits in
    record {
      within = omega (arith, l, fits, i.within);
      front = ap (λ j. take j s) l ∙ sym same;
      left = i.left - 1;
      enough = omega (arith, l, w, k, four, i.enough);
      is = i.is ∙ breaks_on r m i.left (omega (arith, i.enough, four)) (sym c.loop-rest-test.ensures) c.trim_trailing_space.ensures;
    }

pub returns : goal.returns
returns c = let i = c.loop-rest.invariant in record { within = i.within; is = i.front ∙ sym (i.is ∙ breaks_end c.loop-rest.rest.now i.left (sym c.loop-rest-test.ensures)) }
