use Rattle.std.proofs.Common.{arith}
use Rattle.normalized.specs.Blocks.{signed}
use Rattle.normalized.proofs.Blocks.{appends_none, block_step}
use Rattle.normalized.proofs.fast_copy.push_block.Goals as goal

pub loop-i-init : goal.loop-i-init
unfolding signed
loop-i-init c = appends_none c.args.room.now c.args.len

pub loop-i-preserved : goal.loop-i-preserved
loop-i-preserved c =
    let a = c.args in let l = c.loop-i in let h = c.loop-i-test.true in
    block_step a.signs a.s.now l.i l.invariant (omega (arith, c.requires, h))
