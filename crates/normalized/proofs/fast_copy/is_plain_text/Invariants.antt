use Rattle.text.specs.Flow.{Flows}
use Rattle.normalized.proofs.fast_copy.is_plain_text.Given as goal

abbrev pub invariant-loop-i : goal.invariant-loop-i
invariant-loop-i l = Flows l.escape l.s l.i
