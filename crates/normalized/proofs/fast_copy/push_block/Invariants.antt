use Rattle.std.proofs.Common.{◌*◌}
use Rattle.normalized.specs.Blocks.{signed, Appends}
use Rattle.normalized.proofs.fast_copy.push_block.Given as goal

abbrev pub invariant-loop-i : goal.invariant-loop-i
invariant-loop-i l = Appends l.initial.room l.room l.len l.n (2 * l.i) (signed l.signs l.s l.i)
