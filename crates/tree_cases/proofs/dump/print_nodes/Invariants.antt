use Rattle.std.proofs.Common.{◌≤◌}
use Rattle.tree_cases.proofs.dump.print_nodes.Given as goal

abbrev pub invariant-loop-i : goal.invariant-loop-i
invariant-loop-i g l = l.again ≤ l.i
