use Rattle.std.proofs.Common.{◌-◌, ◌≤◌, length}
use Rattle.tree_cases.proofs.dump.start_of_value.Given as goal

abbrev pub invariant-loop-p : goal.invariant-loop-p
invariant-loop-p l = record { behind : l.place ≤ l.p; inside : l.p ≤ length l.sheet }

abbrev pub decreases-loop-p : goal.decreases-loop-p
decreases-loop-p l = length l.sheet - l.p
