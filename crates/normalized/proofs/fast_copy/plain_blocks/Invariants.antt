use Rattle.std.proofs.Common.{length, ◌-◌}
use Rattle.text.specs.Flow.{Flows}
use Rattle.normalized.proofs.fast_copy.plain_blocks.Given as goal

abbrev pub invariant-loop-block : goal.invariant-loop-block
invariant-loop-block l = Flows l.escape l.s l.at

abbrev pub decreases-loop-block : goal.decreases-loop-block
decreases-loop-block l = length l.s - l.at
