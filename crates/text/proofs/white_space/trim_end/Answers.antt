use Rattle.std.proofs.Common.{refl, sym, ◌∙◌, arith}
use Rattle.std.proofs.Math.Seq.{take-length}
use Rattle.text.proofs.WhiteSpace.{front_of_front}
use Rattle.text.proofs.white_space.trim_end.Goals as goal

pub loop-front-init : goal.loop-front-init
loop-front-init c = record { within = omega arith; is = take-length c.args.s.now; trims = refl }

pub loop-front-smaller : goal.loop-front-smaller
loop-front-smaller c = c.in-Some.ensures.shorter

pub loop-front-preserved : goal.loop-front-preserved
loop-front-preserved c =
    let i = c.loop-front.invariant in
    let w = c.in-Some.ensures in
    record { within = omega (arith, i.within, w.shorter); is = front_of_front c.args.s.now c.loop-front.rest.now c.in-Some.front.now i.is w.shorter w.is; trims = i.trims ∙ w.trims }

pub returns : goal.returns
returns c =
    let i = c.loop-front.invariant in
    record { within = i.within; is = i.is ∙ sym (i.trims ∙ c.in_default.ensures) }
