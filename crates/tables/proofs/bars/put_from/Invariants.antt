use mathlib.Core.Path.{◌≡◌}
use mathlib.Core.List.{◌++◌}
use lib.ListN.{take, drop}
use Rattle.tables.proofs.bars.put_from.Given as goal

abbrev pub invariant-loop-i : goal.invariant-loop-i
invariant-loop-i l = l.room ≡ take l.i (drop l.from l.initial.room) ++ drop l.i l.initial.room
