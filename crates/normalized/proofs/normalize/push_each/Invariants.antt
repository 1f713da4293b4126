use Rattle.std.proofs.Common.{take, drop}
use lib.Seq.{slice}
use Rattle.spec.specs.Out.{push}
use Rattle.text.specs.Flow.{flow_before}
use Rattle.text.proofs.Texts.{Owes}
use Rattle.normalized.proofs.normalize.push_each.Given as goal

abbrev pub invariant-loop-i : goal.invariant-loop-i
invariant-loop-i l = Owes l.fn.text l.text (push (flow_before l.escape (slice l.i l.n l.s) (drop l.n l.s))) (push (flow_before l.escape (take l.n l.s) (drop l.n l.s)))
