-- The inlines of a leaf: its bytes as a list of pieces (CommonMark 0.31, sections 2.4, 2.5 and 6).
--
-- A leaf in which CommonMark finds nothing but text is its words. Where something else may begin, the leaf is not taken apart:
-- it is one piece `other`. "May" is wide where CommonMark would need all of its inline machinery; each such place says so.
use Rattle.std.specs.Prelude.{ℕ, suc, ◌+◌, ◌%◌, Bool, true, false, cond, not, ◌&&◌, ◌||◌, List, [], ◌∷◌, map, length, eqb, leb}
use Rattle.spec.specs.Bytes.{Bytes, ascii, isin, white, digit, starts_with, take_while, words}
use Rattle.spec.specs.Entries.{Piece, word, other}
use Rattle.spec.specs.Reading.Lines.{punctuation, letter, letter_or_digit, head_is, run, drop_run}
use Rattle.spec.specs.Reading.Tags.{angle}

-- ---- backslash escapes

-- The state of a scan is whether an unescaped backslash stands before. 2.4: "Any ASCII punctuation character may be
-- backslash-escaped". "Backslashes before other characters are treated as literal backslashes".
unfoldable pub escaped : Bool → ℕ → Bool
escaped s b = s && punctuation b

unfoldable pub slashed : Bool → ℕ → Bool
slashed s b = not s && eqb b 92

-- the backslash waits for the byte behind it
unfoldable pub bare : Bool → Bool → ℕ → Bytes → Bytes
bare true e b r = cond e (b ∷ r) (92 ∷ b ∷ r)
bare false e b r = cond (eqb b 92) r (b ∷ r)

unfoldable pub unescape : Bool → Bytes → Bytes
unescape true [] = 92 ∷ []
unescape false [] = []
unescape s (b ∷ r) = bare s (escaped s b) b (unescape (slashed s b) r)

-- ---- a scan for a byte that is not escaped

-- the byte before the next one. For an escaped byte stands an exclamation mark: it is punctuation too, and never a part of the
-- run that follows
unfoldable pub behind : Bool → ℕ → ℕ
behind e b = cond e 33 b

-- at some byte b that is not escaped, q holds of the byte before it, of b, and of the bytes behind it
unfoldable pub anywhere : (ℕ → ℕ → Bytes → Bool) → ℕ → Bool → Bytes → Bool
anywhere q p s [] = false
anywhere q p s (b ∷ r) = (not (escaped s b) && q p b r) || anywhere q (behind (escaped s b) b) (slashed s b) r

-- ---- code spans

-- 6.1: "A backtick string is a string of one or more backtick characters (`) that is neither preceded nor followed by a backtick.
-- A code span begins with a backtick string and ends with a backtick string of equal length." Behind a run of k backticks, is
-- there a backtick string of n?
unfoldable pub backticks : ℕ → ℕ → Bytes → Bool
backticks n k [] = eqb k n
backticks n k (b ∷ r) = (not (eqb b 96) && eqb k n) || backticks n (cond (eqb b 96) (suc k) 0) r

unfoldable pub code_span : ℕ → Bytes → Bool
code_span p r = not (eqb p 96) && backticks (suc (run 96 r)) 0 (drop_run 96 r)

-- ---- emphasis

-- what stands beside a delimiter run. Wider: a byte outside ASCII may belong to white space, to punctuation or to anything else
pub data Beside : Type 0 where
  beside_white beside_punctuation beside_text beside_unknown : Beside

unfoldable pub beside : ℕ → Beside
beside b = cond (white b) beside_white (cond (punctuation b) beside_punctuation (cond (leb 128 b) beside_unknown beside_text))

-- 6.2: "For purposes of this definition, the beginning and the end of the line count as Unicode whitespace."
unfoldable pub ahead : Bytes → Beside
ahead [] = beside_white
ahead (b ∷ r) = beside b

unfoldable pub is_text : Beside → Bool
is_text beside_white = false
is_text beside_punctuation = false
is_text beside_text = true
is_text beside_unknown = false

unfoldable pub is_punctuation : Beside → Bool
is_punctuation beside_white = false
is_punctuation beside_punctuation = true
is_punctuation beside_text = false
is_punctuation beside_unknown = false

unfoldable pub is_unknown : Beside → Bool
is_unknown beside_white = false
is_unknown beside_punctuation = false
is_unknown beside_text = false
is_unknown beside_unknown = true

-- 6.2: "A left-flanking delimiter run is a delimiter run that is (1) not followed by Unicode whitespace, and either (2a) not
-- followed by a Unicode punctuation character, or (2b) followed by a Unicode punctuation character and preceded by Unicode
-- whitespace or a Unicode punctuation character." With p before and n behind, the run may be so; a right-flanking run is the
-- same with p and n exchanged
unfoldable pub left_flanking : Beside → Beside → Bool
left_flanking p beside_white = false
left_flanking p beside_punctuation = not (is_text p)
left_flanking p beside_text = true
left_flanking p beside_unknown = true

-- 6.2: "A single * character can open emphasis iff (if and only if) it is part of a left-flanking delimiter run." "A single _ character can open
-- emphasis iff it is part of a left-flanking delimiter run and either (a) not part of a right-flanking delimiter run or (b) part
-- of a right-flanking delimiter run preceded by a Unicode punctuation character." It can close with p and n exchanged
unfoldable pub may_open : ℕ → Beside → Beside → Bool
may_open c p n =
    left_flanking p n
    && (eqb c 42 || ((is_unknown p || is_unknown n) || (not (left_flanking n p) || is_punctuation p)))

-- it can do both, whatever the bytes beside it are
unfoldable pub opens_and_closes : ℕ → Beside → Beside → Bool
opens_and_closes c p n = not (is_unknown p || is_unknown n) && (may_open c p n && may_open c n p)

-- 6.2: "If one of the delimiters can both open and close emphasis, then the sum of the lengths of the delimiter runs containing the
-- opening and closing delimiters must not be a multiple of 3 unless both lengths are multiples of 3."
unfoldable pub lengths_match : Bool → ℕ → ℕ → Bool
lengths_match both m n = not (both && (eqb ((m + n) % 3) 0 && not (eqb (m % 3) 0)))

-- a run of n bytes c, with p before and q behind, may close what a run of m may open; o: that run can do both
unfoldable pub closes_run : ℕ → ℕ → Bool → ℕ → Beside → Beside → Bool
closes_run c m o n p q = may_open c q p && lengths_match (o || opens_and_closes c p q) m n

unfoldable pub may_close : ℕ → ℕ → Bool → ℕ → ℕ → Bytes → Bool
may_close c m o p b r =
    eqb b c && (not (eqb p c) && closes_run c m o (suc (run c r)) (beside p) (ahead (drop_run c r)))

-- 6.2: "Emphasis begins with a delimiter that can open emphasis and ends with a delimiter that can close emphasis, and that uses the
-- same character (_ or *) as the opening delimiter. The opening and closing delimiters must belong to separate delimiter runs."
unfoldable pub opens_run : ℕ → ℕ → Beside → Bytes → Bool
opens_run c m p r = may_open c p (ahead r) && anywhere (may_close c m (opens_and_closes c p (ahead r))) c false r

unfoldable pub emphasis : ℕ → ℕ → Bytes → Bool
emphasis c p r = not (eqb p c) && opens_run c (suc (run c r)) (beside p) (drop_run c r)

-- ---- links and pictures

-- 6.3: "An inline link consists of a link text followed immediately by a left parenthesis (, an optional link destination, an
-- optional link title, and a right parenthesis )." Wider: any bytes between the parentheses. The other links need a link
-- reference definition, which is foreign itself
unfoldable pub link_end : ℕ → ℕ → Bytes → Bool
link_end p b r = eqb b 93 && (head_is 40 r && isin 41 r)

unfoldable pub link : Bytes → Bool
link r = anywhere link_end 33 false r

-- ---- character references

-- some bytes of which p holds, and a semicolon
unfoldable pub then_semicolon : (ℕ → Bool) → Bytes → Bool
then_semicolon p [] = false
then_semicolon p (b ∷ r) = eqb b 59 || (p b && then_semicolon p r)

unfoldable pub some_semicolon : (ℕ → Bool) → Bytes → Bool
some_semicolon p r = not (head_is 59 r) && then_semicolon p r

unfoldable pub hex_digit : ℕ → Bool
hex_digit b = digit b || ((leb 65 b && leb b 70) || (leb 97 b && leb b 102))

-- 2.5: "Decimal numeric character references consist of &# + a string of 1–7 arabic digits + ;." "Hexadecimal numeric character
-- references consist of &# + either X or x + a string of 1-6 hexadecimal digits + ;."
unfoldable pub at_most : ℕ → (ℕ → Bool) → Bytes → Bool
at_most n p r = leb (length (take_while p r)) n && some_semicolon p r

unfoldable pub numeric : Bytes → Bool
numeric [] = false
numeric (b ∷ r) = cond (isin b (ascii "Xx")) (at_most 6 hex_digit r) (at_most 7 digit (b ∷ r))

-- 2.5: "Entity references consist of & + any of the valid HTML5 entity names + ;." Wider: any name
unfoldable pub reference : Bytes → Bool
reference [] = false
reference (b ∷ r) = cond (eqb b 35) (numeric r) (letter b && then_semicolon letter_or_digit r)

-- ---- what a byte may begin

pub data Mark : Type 0 where
  backtick_mark delimiter_mark bracket_mark angle_mark ampersand_mark backslash_mark space_mark no_mark : Mark

unfoldable pub mark : ℕ → Mark
mark b =
    cond (eqb b 96) backtick_mark (cond (isin b (ascii "*_")) delimiter_mark (cond (eqb b 91) bracket_mark
    (cond (eqb b 60) angle_mark (cond (eqb b 38) ampersand_mark (cond (eqb b 92) backslash_mark
    (cond (eqb b 32) space_mark no_mark))))))

-- 6.7: "A line ending (not in a code span or HTML tag) that is preceded by two or more spaces and does not occur at the end of a
-- block is parsed as a hard line break". "a backslash before the line ending may be used instead of two or more spaces"
unfoldable pub begins_by : Mark → ℕ → ℕ → Bytes → Bool
begins_by backtick_mark p b r = code_span p r
begins_by delimiter_mark p b r = emphasis b p r
begins_by bracket_mark p b r = link r
begins_by angle_mark p b r = angle r
begins_by ampersand_mark p b r = reference r
begins_by backslash_mark p b r = head_is 10 r
begins_by space_mark p b r = starts_with (32 ∷ 10 ∷ []) r
begins_by no_mark p b r = false

-- behind the byte p, b and the bytes r may begin something other than text
unfoldable pub begins : ℕ → ℕ → Bytes → Bool
begins p b r = begins_by (mark b) p b r

unfoldable pub pieces : Bool → Bytes → List Piece
pieces true t = other ∷ []
pieces false t = map word (words (unescape false t))

unfoldable pub inline : Bytes → List Piece
inline t = pieces (anywhere begins 32 false t) t
