use Rattle.std.proofs.Common.{◌≡◌, length}
use Rattle.spec.specs.Bytes.{trim_from}
use Rattle.elements.proofs.code.trim_start.Given as goal

abbrev pub invariant-loop-rest : goal.invariant-loop-rest
invariant-loop-rest l = trim_from 0 l.s ≡ trim_from 0 l.rest

abbrev pub decreases-loop-rest : goal.decreases-loop-rest
decreases-loop-rest l = length l.rest
