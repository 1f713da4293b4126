use Rattle.std.proofs.Common.{◌≡◌, ◌++◌, ◌+◌, ◌≤◌, List, ℕ, length}
use Rattle.marks.specs.Runs.{longest_with}
use Rattle.marks.proofs.code.max_backtick_run.Given as goal

-- in s the longest run is found as it is found from `runs` in the rest
abbrev pub invariant-loop-block : goal.invariant-loop-block
invariant-loop-block l = record {
  goes : (more : List ℕ) → longest_with (record { best = 0; run = 0 }) (l.s ++ more) ≡ longest_with l.runs (l.rest ++ more);
  small : l.runs.run + length l.rest ≤ length l.s;
}

abbrev pub decreases-loop-block : goal.decreases-loop-block
decreases-loop-block l = length l.rest
