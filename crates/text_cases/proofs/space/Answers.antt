-- The length of an array of zeros, without counting them.
use Rattle.std.proofs.Common.{ℕ, sym}
use lib.ListN.{length-replicate}
use Rattle.text_cases.proofs.space.Goals as goal

pub returns : goal.returns
returns c = sym (length-replicate {A = ℕ} 524288 0)
