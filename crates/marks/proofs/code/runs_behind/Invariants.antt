use lib.ListN.{take}
use Rattle.marks.specs.Runs.{RunsBehind}
use Rattle.marks.proofs.code.runs_behind.Given as goal

abbrev pub invariant-loop-b : goal.invariant-loop-b
invariant-loop-b l = RunsBehind l.initial.runs (take l.b-index l.s) l.runs
