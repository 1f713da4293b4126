-- The words of a text that comes in pieces, with a blank between two.
use Rattle.std.specs.Prelude.{ℕ, ◌≡◌, Bool, cond, not, ◌&&◌, ◌||◌, [], ◌∷◌, ◌++◌, Result, Ok, Err}
use Rattle.spec.specs.Bytes.{Bytes, ascii, white}
use Rattle.spec.specs.Out.{push}
use Rattle.text.specs.Texts.{WritesTo}
use Rattle.text.specs.declared.buffer.Full.{Full}
use Rattle.text.specs.declared.text.Text.{Text}
use Rattle.elements.specs.declared.pre.Joined.{Joined}

-- what a byte appends: white bytes nothing, any other itself, behind a blank if it leads a word that is not the first
abbrev pub word_byte : Bool → ℕ → Bytes
word_byte lead b = cond (white b) [] (cond lead (ascii " ") [] ++ (b ∷ []))

-- what a piece appends: `some` says that a word stands before it, `gap` that a white byte came last
unfoldable pub words_on : Bool → Bool → Bytes → Bytes
words_on some gap [] = []
words_on some gap (b ∷ s) = word_byte (some && gap) b ++ words_on (some || not (white b)) (white b) s

-- the two behind a piece
unfoldable pub some_after : Bool → Bytes → Bool
some_after some [] = some
some_after some (b ∷ s) = some_after (some || not (white b)) s

unfoldable pub gap_after : Bool → Bytes → Bool
gap_after gap [] = gap
gap_after gap (b ∷ s) = gap_after (white b) s

-- the answer without the state
abbrev pub answer_of : Result Joined Full → Result (Unit {0}) Full
answer_of (Ok _) = Ok tt
answer_of (Err e) = Err e

abbrev pub StateIs : Result Joined Full → Bool → Bool → Type 0
StateIs (Ok j) a b = (j.some ≡ a) × (j.gap ≡ b)
StateIs (Err _) a b = Unit {0}

-- the answer for a piece that is appended
pub record Joins (before after : Text) (r : Result Joined Full) (some gap : Bool) (s : Bytes) : Type 0 where
  pub writes : WritesTo before after (answer_of r) (push (words_on some gap s))
  pub state : StateIs r (some_after some s) (gap_after gap s)
