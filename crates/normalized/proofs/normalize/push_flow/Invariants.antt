use Rattle.std.proofs.Common.{length}
use Rattle.spec.specs.Out.{push}
use Rattle.text.specs.Flow.{flow}
use Rattle.text.proofs.Texts.{Owes}
use Rattle.normalized.proofs.normalize.push_flow.Given as goal

abbrev pub invariant-loop-rest : goal.invariant-loop-rest
invariant-loop-rest l = Owes l.fn.text l.text (push (flow l.escape l.rest)) (push (flow l.escape l.s))

abbrev pub decreases-loop-rest : goal.decreases-loop-rest
decreases-loop-rest l = length l.rest
