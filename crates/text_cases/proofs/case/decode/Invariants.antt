use Rattle.std.proofs.Common.{◌≤◌, length}
use Rattle.text_cases.proofs.case.decode.Given as goal

abbrev pub invariant-loop-pair : goal.invariant-loop-pair
invariant-loop-pair l = l.n ≤ length l.out
