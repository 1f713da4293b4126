-- Bytes put where room is known to be.
use Rattle.std.specs.Prelude.{ℕ, ◌+◌, ◌≡◌, List, [], ◌∷◌, ◌++◌, length, take, drop}
use Rattle.spec.specs.Bytes.{Bytes}
use Rattle.text.specs.declared.text.Text.{Text}

-- x stands behind the first `len` bytes now, up to `end`, and all else is as it was
pub record Puts (before after : List ℕ) (len end : ℕ) (x : List ℕ) : Type 0 where
  pub long : length after ≡ length before
  pub count : end ≡ len + length x
  pub text_is : take end after ≡ take len before ++ x
  pub behind : drop end after ≡ drop end before

-- x is put at the end of a text
pub record PutsTo (before after : Text) (x : List ℕ) : Type 0 where
  pub room_is : after.room.ghost_name ≡ before.room.ghost_name
  pub puts : Puts before.room.now after.room.now before.len after.len x

-- a cell of a line, from behind the pipe before it
unfoldable pub bar : Bytes → Bytes
bar x = 32 ∷ (x ++ (32 ∷ 124 ∷ []))

unfoldable pub bars : List Bytes → Bytes
bars [] = []
bars (x ∷ xs) = bar x ++ bars xs

-- `line`, where there are cells
unfoldable pub bar_line : List Bytes → Bytes
bar_line cells = 124 ∷ (bars cells ++ (10 ∷ []))

unfoldable pub bar_lines : List (List Bytes) → Bytes
bar_lines [] = []
bar_lines (row ∷ rows) = bar_line row ++ bar_lines rows
