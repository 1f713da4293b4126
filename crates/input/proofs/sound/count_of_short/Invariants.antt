use Prim.Native.Nat.{◌-◌}
use lib.ListN.{length}
use Rattle.input.proofs.Sounding.{SoFar}
use Rattle.input.proofs.sound.count_of_short.Given as goal

abbrev pub invariant-loop-p : goal.invariant-loop-p
invariant-loop-p l = SoFar l.s l.before l.depth l.count l.p

abbrev pub decreases-loop-p : goal.decreases-loop-p
decreases-loop-p l = length l.s - l.p
