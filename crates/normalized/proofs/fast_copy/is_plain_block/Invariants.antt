use Rattle.std.proofs.Common.{◌≡◌, ℕ, ◌<◌, true}
use Rattle.text.specs.Flow.{Plain}
use Rattle.normalized.proofs.fast_copy.is_plain_block.Given as goal

abbrev pub invariant-loop-i : goal.invariant-loop-i
invariant-loop-i l = l.all ≡ true → (j : ℕ) → j < l.i → Plain l.escape l.s j
