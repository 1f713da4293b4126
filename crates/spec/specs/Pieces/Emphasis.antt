-- Delimiter runs of asterisks and the flanking rules (CommonMark 0.31, sections 2.1 and 6.2), for any way of telling the characters
-- outside ASCII.
use Rattle.std.specs.Prelude.{ℕ, ◌≡◌, Bool, true, false, cond, not, ◌&&◌, [], ◌∷◌, ◌++◌, eqb, leb}
use Rattle.spec.specs.Bytes.{Bytes, null}
use Rattle.spec.specs.Reading.Lines.{drop_run}
use Rattle.spec.specs.Reading.Inline.{escaped, slashed, Beside, beside_white, is_unknown, beside, may_open}

-- The class of the character that a text begins with, and of the one that it ends with. 2.1: "A Unicode whitespace character is
-- any code point in the Unicode Zs general category, or a tab (U+0009), line feed (U+000A), form feed (U+000C), or carriage return
-- (U+000D)." "A Unicode punctuation character is a character in the Unicode P (punctuation) or S (symbol) general categories." Of
-- ASCII `beside` says it. 6.2: "the beginning and the end of the line count as Unicode whitespace"
pub record Classes : Type 0 where
  pub first : Bytes → Beside
  pub last : Bytes → Beside
  pub first_none : first [] ≡ beside_white
  pub last_none : last [] ≡ beside_white
  pub first_ascii : (b : ℕ) (s : Bytes) → leb b 127 ≡ true → first (b ∷ s) ≡ beside b
  pub last_ascii : (s : Bytes) (b : ℕ) → leb b 127 ≡ true → last (s ++ (b ∷ [])) ≡ beside b
  pub first_known : (s : Bytes) → is_unknown (first s) ≡ false
  pub last_known : (s : Bytes) → is_unknown (last s) ≡ false

-- the text ends with a byte c that no backslash escapes; s: an unescaped backslash stands before it
unfoldable pub ends_bare : ℕ → Bool → Bytes → Bool
ends_bare c s [] = false
ends_bare c s (b ∷ r) = cond (null r) (not (escaped s b) && eqb b c) (ends_bare c (slashed s b) r)

-- 6.2: "A delimiter run is either a sequence of one or more * characters that is not preceded or followed by a
-- non-backslash-escaped * character, or a sequence of one or more _ characters that is not preceded or followed by a
-- non-backslash-escaped _ character." A run of c begins behind x
unfoldable pub run_begins : ℕ → Bytes → Bool
run_begins c x = not (ends_bare c false x)

-- the run of c that `from` begins with, behind x, can open emphasis; it can close emphasis
unfoldable pub can_open : Classes → ℕ → Bytes → Bytes → Bool
can_open k c x from = run_begins c x && may_open c (k.last x) (k.first (drop_run c from))

unfoldable pub can_close : Classes → ℕ → Bytes → Bytes → Bool
can_close k c x from = run_begins c x && may_open c (k.first (drop_run c from)) (k.last x)
