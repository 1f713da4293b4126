-- What one pass over the fields says of a sheet that questions 1 to 6 let pass.
use Rattle.std.specs.Prelude.{ℕ, ◌*◌, ◌≤◌, ◌≡◌, Bool, true, not, ◌&&◌, [], ◌∷◌, length, leb, ltb}
use Rattle.spec.specs.Bytes.{Bytes}
use Rattle.spec.specs.Utf8.{is_utf8}
use Rattle.spec.specs.Questions.{SkipList, node_count, question1, question2, question3, question4, question5, question6, question8, first_no}
use Rattle.input.specs.Scans.{field_right, opens_blockquote}

-- what questions 2, 3 and 6 ask of a field that ends inside the sheet, behind one with the tag `before` and with `depth` elements open
unfoldable pub ruled_field : ℕ → ℕ → ℕ → Bytes → Bool
ruled_field before depth tag body = (leb 1 tag && leb tag 6) && (field_right before depth tag (length body) && not (opens_blockquote tag body))

-- what question 4 asks, too
unfoldable pub sound_field : ℕ → ℕ → ℕ → Bytes → Bool
sound_field before depth tag body = ruled_field before depth tag body && is_utf8 body

-- what the questions ask at the end of the fields, with `left` bytes behind them
pub record Ended (left before depth count r : ℕ) : Type 0 where
  pub all : left ≡ 0
  pub named : before ≡ 2 → ⊥
  pub shut : depth ≡ 0
  pub few : count ≤ 65535
  pub same : r ≡ count

-- questions 1 to 6 say yes to a sheet of r nodes
pub record Sound (sheet : Bytes) (r : ℕ) : Type 0 where
  pub one : question1 sheet ≡ true
  pub two : question2 sheet ≡ true
  pub three : question3 sheet ≡ true
  pub four : question4 sheet ≡ true
  pub five : question5 sheet ≡ true
  pub six : question6 sheet ≡ true
  pub nodes : r ≡ node_count sheet

-- the first no of questions 7, 8 and 9 of such a sheet
unfoldable pub refusal_of_sound : ℕ → SkipList → ℕ → ℕ → ℕ
refusal_of_sound count skips start memory = first_no 7 (ltb start count ∷ question8 skips ∷ leb (count * 64) memory ∷ [])
