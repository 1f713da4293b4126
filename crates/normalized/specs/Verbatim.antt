-- A text of which each byte adds itself.
use Rattle.std.specs.Prelude.{ℕ, ◌+◌, ◌≡◌, Bool, true, ◌||◌, length, get_or, eqb}
use Rattle.spec.specs.Bytes.{Bytes}
use Rattle.text.specs.Flow.{kept, Flows}

-- the bytes of s add themselves; the last one, behind which nothing stands, may be a blank
pub record Whole (escape : Bool) (s : Bytes) : Type 0 where
  pub last : ℕ
  pub long : length s ≡ last + 1
  pub flows : Flows escape s last
  pub ends : kept escape (get_or s last 0) || eqb (get_or s last 0) 32 ≡ true
