use Rattle.std.proofs.Common.{◌≡◌, length}
use Rattle.spec.specs.Fields.{whole}
use Rattle.input.proofs.fields.is_whole.Given as goal

abbrev pub invariant-loop-rest : goal.invariant-loop-rest
invariant-loop-rest l = whole l.low l.high l.s ≡ whole l.low l.high l.rest

abbrev pub decreases-loop-rest : goal.decreases-loop-rest
decreases-loop-rest l = length l.rest
