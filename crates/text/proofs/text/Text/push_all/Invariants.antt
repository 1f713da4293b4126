use mathlib.Core.Path.{◌≡◌}
use lib.ListN.{take}
use Rattle.text.proofs.text.Text.push_all.Given as goal

abbrev pub invariant-loop-i : goal.invariant-loop-i
invariant-loop-i l = take l.i l.to ≡ take l.i l.src
