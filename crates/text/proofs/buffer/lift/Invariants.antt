use mathlib.Core.Path.{◌≡◌}
use Rattle.text.proofs.Moving.{raised}
use Rattle.text.proofs.buffer.lift.Given as goal

abbrev pub invariant-loop-i : goal.invariant-loop-i
invariant-loop-i l = l.text ≡ raised l.initial.text l.from l.n l.to l.i
