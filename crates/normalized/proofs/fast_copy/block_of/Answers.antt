use Rattle.std.proofs.Common.{length-set, ◌∙◌, arith}
use Rattle.normalized.proofs.Blocks.{signs_next}
use Rattle.normalized.proofs.Flowing.{block_next}
use Rattle.normalized.proofs.fast_copy.block_of.Goals as goal

pub loop-i-preserved : goal.loop-i-preserved
loop-i-preserved c =
    let l = c.loop-i in let v = l.invariant in
    (length-set l.signs l.i _ ∙ v.0, signs_next l.i 16 (omega (arith, v.0)) (omega arith) v.1 c.is_sign.ensures, block_next l.i 16 (omega arith) (omega arith) v.2 c.is_plain-even.ensures)
