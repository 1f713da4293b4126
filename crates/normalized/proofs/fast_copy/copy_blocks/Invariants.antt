use Rattle.std.proofs.Common.{◌≡◌, ◌+◌, ◌-◌, ◌≤◌, length}
use Rattle.normalized.proofs.Blocks.{Copied}
use Rattle.normalized.proofs.fast_copy.copy_blocks.Given as goal

abbrev pub invariant-loop-i : goal.invariant-loop-i
invariant-loop-i l = (l.i ≤ l.n + 15) × (length l.room ≡ length l.initial.room) × Copied l.initial.room l.s l.at l.room l.i

abbrev pub decreases-loop-i : goal.decreases-loop-i
decreases-loop-i l = l.n + 16 - l.i
