-- What a method that writes to a text leaves: the same room, and in it what its definition makes of the text.
use Rattle.std.specs.Prelude.{ℕ, ◌≡◌, List, length, take, Result, Ok, Err}
use Rattle.spec.specs.Out.{Step}
use Rattle.text.specs.declared.buffer.Full.{Full}
use Rattle.text.specs.declared.text.Text.{Text}
use Rattle.text.specs.Writes.{Wrote, Writes}

abbrev pub bytes : Text → List ℕ
bytes t = take t.len t.room.now

-- the answer, with the length that the text has then
abbrev pub wrote : Text → Result (Unit {0}) Full → Wrote
wrote after (Ok _) = Ok after.len
wrote after (Err e) = Err e

pub record WritesTo (before after : Text) (r : Result (Unit {0}) Full) (step : Step) : Type 0 where
  pub room_is : after.room.ghost_name ≡ before.room.ghost_name
  pub long : length after.room.now ≡ length before.room.now
  pub writes : Writes (length before.room.now) after.room.now (wrote after r) (step (take before.len before.room.now))
