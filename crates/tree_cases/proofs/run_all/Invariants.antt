use Rattle.std.proofs.Common.{length}
use Rattle.tree_cases.proofs.run_all.Given as goal

abbrev pub decreases-loop-call : goal.decreases-loop-call
decreases-loop-call g l = length l.rest
