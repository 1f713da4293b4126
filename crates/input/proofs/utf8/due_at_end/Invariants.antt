use Rattle.std.proofs.Common.{◌≡◌, ◌++◌, List, ℕ, length}
use Rattle.spec.specs.Utf8.{well_formed}
use Rattle.input.specs.Lead.{make, due}
use Rattle.input.proofs.utf8.due_at_end.Given as goal

abbrev pub invariant-loop-rest : goal.invariant-loop-rest
invariant-loop-rest l = (behind : List ℕ) → well_formed (due (make 0 0x80 0xBF)) (l.s ++ behind) ≡ well_formed (due l.due) (l.rest ++ behind)

abbrev pub decreases-loop-rest : goal.decreases-loop-rest
decreases-loop-rest l = length l.rest
