use Rattle.std.proofs.Common.{arith}
use Rattle.normalized.proofs.Flowing.{flows_on, block_plain, block_first}
use Rattle.normalized.proofs.fast_copy.plain_blocks.Goals as goal

pub loop-block-preserved : goal.loop-block-preserved
loop-block-preserved c =
    let s = c.args.s.now in let at = c.loop-block.at in let v = c.in-Some.ensures.cases in let b = c.in-Some.block.now in
    let p = block_first s b at v.enough v.same in
    flows_on c.loop-block.invariant (omega (arith, p.0)) (block_plain s b at p.0 p.1 (c.is_plain_block.ensures c.if-not-is_plain_block.false))
