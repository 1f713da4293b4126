use Rattle.std.proofs.Common.{◌+◌, ◌≤◌, length}
use Rattle.text_cases.proofs.replay_lines.Given as goal

abbrev pub invariant-loop-line : goal.invariant-loop-line
invariant-loop-line g l = record { counted : l.count + length l.rest ≤ length l.lines; told : l.differ ≤ l.count }

abbrev pub decreases-loop-line : goal.decreases-loop-line
decreases-loop-line g l = length l.rest
