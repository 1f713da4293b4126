-- What a function that writes answers: the contract of each is `Writes` of its definition.
use Rattle.std.specs.Prelude.{ℕ, ◌≤◌, ◌<◌, ◌≡◌, List, length, take, Result, Ok, Err}
use Rattle.spec.specs.Out.{Out}
use Rattle.text.specs.declared.buffer.Full.{Full}

abbrev pub Wrote : Type 0
Wrote = Result ℕ Full

abbrev pub no_room : Wrote
no_room = Err (record {})

-- o fits the room, and stands at the front of `after`, n bytes long. The bytes behind the text are left to the program:
-- nothing is said of `drop n after` but its length
pub record Written (room : ℕ) (after : List ℕ) (n : ℕ) (o : Out) : Type 0 where
  pub long : length after ≡ room
  pub fits : o.peak ≤ room
  pub count : n ≡ length o.text
  pub text_is : take n after ≡ o.text

-- o has no room; the bytes of the memory are left to the program
pub record Refused (room : ℕ) (o : Out) : Type 0 where
  pub over : room < o.peak

abbrev pub Says : ℕ → List ℕ → Wrote → Out → Type 0
Says room after (Ok n) o = Written room after n o
Says room after (Err _) o = Refused room o

-- a record, so that antt reads its arguments off its type
pub record Writes (room : ℕ) (after : List ℕ) (r : Wrote) (o : Out) : Type 0 where
  pub says : Says room after r o
