use Prim.Native.Nat.{◌+◌, ◌-◌, ◌≤◌}
use mathlib.Core.Path.{◌≡◌}
use lib.ListN.{length}
use Rattle.tree.proofs.Stages.{Storing}
use Rattle.tree.proofs.store.store_rest.Given as goal

-- p may lie behind the end, by as much as the length of a field at most
abbrev pub invariant-loop-p : goal.invariant-loop-p
invariant-loop-p l = (l.p ≤ length l.sheet + 65535) × (length l.nodes ≡ length l.initial.nodes) × Storing l.sheet l.nodes l.p l.count l.cur

abbrev pub decreases-loop-p : goal.decreases-loop-p
decreases-loop-p l = length l.sheet - l.p
