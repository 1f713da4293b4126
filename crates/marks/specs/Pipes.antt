-- Pipes that gain a backslash, and bytes put before others.
use Rattle.std.specs.Prelude.{ℕ, ◌+◌, ◌≡◌, Bool, cond, not, ◌&&◌, List, [], ◌∷◌, ◌++◌, length, take, drop}
use Rattle.spec.specs.Bytes.{Bytes, ascii, ends_with}
use Rattle.spec.specs.Md.Elements.Emphasis.{drop_end}

-- s ends with a pipe that has no backslash just before it
abbrev pub bare_pipe : Bytes → Bool
bare_pipe s = ends_with (ascii "|") s && not (ends_with (ascii "\\") (drop_end 1 s))

-- a byte, behind a backslash if it is escaped
abbrev pub escaped_byte : Bool → ℕ → Bytes
escaped_byte escaped b = cond escaped (ascii "\\") [] ++ (b ∷ [])

-- `piece` stands at r, just before what stood at `at`, and what lies before r is as it was
pub record PutBefore (before after : List ℕ) (at r : ℕ) (piece : Bytes) : Type 0 where
  pub long : length after ≡ length before
  pub begins : r + length piece ≡ at
  pub kept : take r after ≡ take r before
  pub behind : drop r after ≡ piece ++ drop at before
