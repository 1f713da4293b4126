use Rattle.std.proofs.Common.{◌-◌, ◌≤◌, ◌<◌}
use Rattle.tree_cases.proofs.list.append.Given as goal

abbrev pub invariant-loop-filled : goal.invariant-loop-filled
invariant-loop-filled l = record { inside : l.filled ≤ l.n; some : l.filled < l.n → 0 < l.filled }

abbrev pub decreases-loop-filled : goal.decreases-loop-filled
decreases-loop-filled l = l.n - l.filled
