use Rattle.std.proofs.Common.{arith}
use Rattle.normalized.proofs.Flowing.{block_next}
use Rattle.normalized.proofs.fast_copy.is_plain_block.Goals as goal

pub loop-i-preserved : goal.loop-i-preserved
loop-i-preserved c = let l = c.loop-i in block_next l.i 16 (omega arith) (omega arith) l.invariant c.is_plain-all.ensures
