-- Where words begin and end in a part of a text.
use Rattle.std.specs.Prelude.{ℕ, ◌≤◌, ◌<◌, ◌≡◌, false, not, List, ◌∷◌, get_or, eqb}
use Rattle.std.proofs.Math.Seq.{slice}
use Rattle.spec.specs.Bytes.{white, words, is_blank}
use Rattle.spec.specs.Md.TextUtils.{starts_with_white}

-- the first word of s from i on begins at r, or there is none and r is `to`
pub record WordAt (s : List ℕ) (i to r : ℕ) : Type 0 where
  pub from : i ≤ r
  pub within : r ≤ to
  pub black : r < to → white (get_or s r 0) ≡ false
  pub same_words : words (slice i to s) ≡ words (slice r to s)
  pub begins_white : starts_with_white (slice i to s) ≡ not (eqb r i)
  pub all_white : is_blank (slice i to s) ≡ eqb r to

-- the word at i ends before e
pub record WordEnd (s : List ℕ) (i to e : ℕ) : Type 0 where
  pub some : i < e
  pub within : e ≤ to
  pub first : words (slice i to s) ≡ slice i e s ∷ words (slice e to s)
