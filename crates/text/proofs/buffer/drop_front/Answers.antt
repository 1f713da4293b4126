use Rattle.std.proofs.Common.{arith}
use Rattle.text.proofs.Moving.{moved_on}
use Rattle.text.proofs.buffer.drop_front.Goals as goal

pub loop-i-preserved : goal.loop-i-preserved
loop-i-preserved c = moved_on c.args.text.now c.loop-i.text c.args.from c.loop-i.i (omega arith) c.loop-i.invariant
