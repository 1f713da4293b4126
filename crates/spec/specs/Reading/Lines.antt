-- The lines of a text, their blanks and columns (CommonMark 0.31, sections 2.1 to 2.3).
use Rattle.std.specs.Prelude.{ℕ, zero, suc, ◌+◌, ◌-◌, ◌%◌, Bool, true, false, cond, not, ◌&&◌, ◌||◌, List, [], ◌∷◌, ◌++◌, replicate, eqb, leb}
use Rattle.spec.specs.Bytes.{Bytes, every, null, digit, starts_with}

-- ---- bytes

-- 2.1: "An ASCII punctuation character is !, ", #, $, %, &, ', (, ), *, +, ,, -, ., / (U+0021–2F), :, ;, <, =, >, ?, @
-- (U+003A–0040), [, \, ], ^, _, ` (U+005B–0060), {, |, }, or ~ (U+007B–007E)."
unfoldable pub punctuation : ℕ → Bool
punctuation b = (leb 33 b && leb b 47) || ((leb 58 b && leb b 64) || ((leb 91 b && leb b 96) || (leb 123 b && leb b 126)))

unfoldable pub letter : ℕ → Bool
letter b = (leb 65 b && leb b 90) || (leb 97 b && leb b 122)

unfoldable pub letter_or_digit : ℕ → Bool
letter_or_digit b = letter b || digit b

-- 2.1: "A space is U+0020." "A tab is U+0009."
unfoldable pub space_or_tab : ℕ → Bool
space_or_tab b = eqb b 32 || eqb b 9

-- s begins with the byte c
unfoldable pub head_is : ℕ → Bytes → Bool
head_is c [] = false
head_is c (b ∷ r) = eqb b c

unfoldable pub drop_while : (ℕ → Bool) → Bytes → Bytes
drop_while p [] = []
drop_while p (b ∷ r) = cond (p b) (drop_while p r) (b ∷ r)

-- how many bytes c begin s, and what stands behind them
unfoldable pub run : ℕ → Bytes → ℕ
run c [] = 0
run c (b ∷ r) = cond (eqb b c) (suc (run c r)) 0

unfoldable pub drop_run : ℕ → Bytes → Bytes
drop_run c [] = []
drop_run c (b ∷ r) = cond (eqb b c) (drop_run c r) (b ∷ r)

-- x stands somewhere in s
unfoldable pub contains : Bytes → Bytes → Bool
contains x [] = null x
contains x (b ∷ s) = starts_with x (b ∷ s) || contains x s

-- ---- lines

-- 2.3: "For security reasons, the Unicode character U+0000 must be replaced with the REPLACEMENT CHARACTER (U+FFFD)."
unfoldable pub safe_byte : ℕ → Bytes → Bytes
safe_byte b r = cond (eqb b 0) (0xEF ∷ 0xBF ∷ 0xBD ∷ r) (b ∷ r)

unfoldable pub safe : Bytes → Bytes
safe [] = []
safe (b ∷ r) = safe_byte b (safe r)

-- 2.1: "A line ending is a line feed (U+000A), a carriage return (U+000D) not followed by a line feed, or a carriage return
-- and a following line feed." The CR of a CR LF gives nothing, so that the LF ends the line. A pair is the line in hand and the
-- lines behind it
unfoldable pub ends_line : ℕ → Bytes → Bool
ends_line b r = eqb b 10 || (eqb b 13 && not (head_is 10 r))

unfoldable pub line_byte : Bool → Bool → ℕ → Bytes × List Bytes → Bytes × List Bytes
line_byte true cr b p = ([], p.0 ∷ p.1)
line_byte false true b p = p
line_byte false false b p = (b ∷ p.0, p.1)

unfoldable pub cut_lines : Bytes → Bytes × List Bytes
cut_lines [] = ([], [])
cut_lines (b ∷ r) = line_byte (ends_line b r) (eqb b 13) b (cut_lines r)

-- 2.1: "A line is a sequence of zero or more characters other than line feed (U+000A) or carriage return (U+000D), followed by
-- a line ending or by the end of file." Behind the last line ending no line begins
unfoldable pub without_last : List Bytes → List Bytes
without_last [] = []
without_last (l ∷ ls) = cond (null ls) (cond (null l) [] (l ∷ [])) (l ∷ without_last ls)

unfoldable pub lines : Bytes → List Bytes
lines t = let p = cut_lines t in without_last (p.0 ∷ p.1)

-- 2.1: "A line containing no characters, or a line containing only spaces (U+0020) or tabs (U+0009), is called a blank line."
unfoldable pub blank_line : Bytes → Bool
blank_line l = every space_or_tab l

-- ---- columns

-- 2.2: "Tabs in lines are not expanded to spaces. However, in contexts where spaces help to define block structure, tabs behave
-- as if they were replaced by spaces with a tab stop of 4 characters." How far the blank b goes that stands at column c
unfoldable pub width : ℕ → ℕ → ℕ
width c b = cond (eqb b 9) (4 - c % 4) 1

-- the column of the first byte that is no blank, where the bytes begin at column c
unfoldable pub column : ℕ → Bytes → ℕ
column c [] = c
column c (b ∷ r) = cond (space_or_tab b) (column (c + width c b) r) c

unfoldable pub strip : Bytes → Bytes
strip l = drop_while space_or_tab l

-- 4.5: "up to N spaces of indentation are removed from each line of the content (if present)". The bytes begin at column c; of a
-- tab that goes past the N columns the rest stays, as spaces
unfoldable pub unindent : ℕ → ℕ → Bytes → Bytes
unindent n c [] = []
unindent zero c (b ∷ r) = b ∷ r
unindent (suc n) c (b ∷ r) =
    elim (space_or_tab b) [
      | false ↦ b ∷ r
      | true ↦ elim (leb (width c b) (suc n)) [
        | true ↦ unindent (suc n - width c b) (c + width c b) r
        | false ↦ replicate (width c b - suc n) 32 ++ r
      ]
    ]
