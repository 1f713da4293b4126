-- Each head makes three calls at most.
use Rattle.std.proofs.Common.{◌+◌, ◌*◌, ◌≤◌}
use Rattle.md_cases.proofs.replay_list.Given as goal

abbrev pub invariant-loop-k : goal.invariant-loop-k
invariant-loop-k g l =
    record {
      counted : l.calls + 3 * (goal.iterator-loop-k g).remaining l.k-iterator ≤ 3 * (goal.iterator-loop-k g).remaining l.initial.k-iterator;
      told : l.differ + 3 * (goal.iterator-loop-k g).remaining l.k-iterator ≤ 3 * (goal.iterator-loop-k g).remaining l.initial.k-iterator;
    }
