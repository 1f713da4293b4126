-- What a trim answers: the new length, or how much is left out in front.
use Rattle.std.specs.Prelude.{ℕ, ◌≤◌, ◌<◌, ◌≡◌, List, length, take, drop}
use Rattle.spec.specs.Bytes.{trim_end}

-- the first n bytes of s are `short`
pub record Trimmed (s : List ℕ) (n : ℕ) (short : List ℕ) : Type 0 where
  pub within : n ≤ length s
  pub is : take n s ≡ short

-- s from n on is `short`
pub record Skipped (s : List ℕ) (n : ℕ) (short : List ℕ) : Type 0 where
  pub within : n ≤ length s
  pub is : drop n s ≡ short

-- `front` is s without the White_Space character at its end
pub record WithoutEnd (s front : List ℕ) : Type 0 where
  pub shorter : length front < length s
  pub is : take (length front) s ≡ front
  pub trims : trim_end s ≡ trim_end front
