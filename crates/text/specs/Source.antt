-- A text whose room is a part of the memory.
use Rattle.std.specs.Prelude.{ℕ, ◌≡◌, List, length, take, drop}
use Rattle.spec.specs.Out.{Out}
use Rattle.text.specs.Writes.{Writes, Wrote}

-- the text takes the first `room` bytes of the memory, and leaves those behind them as they were
pub record WritesIn (room : ℕ) (before after : List ℕ) (r : Wrote) (o : Out) : Type 0 where
  pub long : length after ≡ length before
  pub writes : Writes room (take room after) r o
  pub behind : drop room after ≡ drop room before
