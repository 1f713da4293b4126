use Rattle.std.proofs.Common.{◌≡◌, ℕ, ◌<◌, true, false, length}
use Rattle.normalized.specs.Blocks.{Signs}
use Rattle.text.specs.Flow.{Plain}
use Rattle.normalized.proofs.fast_copy.block_of.Given as goal

abbrev pub invariant-loop-i : goal.invariant-loop-i
invariant-loop-i l = (length l.signs ≡ 16) × Signs l.escape l.s l.signs l.i × (l.even ≡ true → (j : ℕ) → j < l.i → Plain false l.s j)
