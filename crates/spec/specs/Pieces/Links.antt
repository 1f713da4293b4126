-- Link destinations, link titles, and the text that they stand for (CommonMark 0.31, sections 2.4, 2.5 and 6.3).
use Rattle.std.specs.Prelude.{ℕ, zero, suc, ◌-◌, Bool, true, false, cond, not, ◌&&◌, ◌||◌, List, [], ◌∷◌, ◌++◌, length, take, drop, eqb, leb}
use Rattle.std.proofs.Math.Option.{Option, none, some}
use Rattle.spec.specs.Bytes.{Bytes, null, isin, take_while}
use Rattle.spec.specs.Reading.Lines.{punctuation, head_is, lines, blank_line}
use Rattle.spec.specs.Reading.Inline.{escaped, slashed}
use Rattle.spec.specs.Pieces.CodeSpans.{inner}

-- ---- backslash escapes and character references

-- The character references that there are: for the bytes between `&` and `;`, the bytes of the characters meant. 2.5: "Entity
-- references consist of & + any of the valid HTML5 entity names + ;." Numeric references belong to it too
abbrev pub References : Type 0
References = Bytes → Option Bytes

-- the bytes before the first semicolon
unfoldable pub ref_name : Bytes → Bytes
ref_name r = take_while (λ b. not (eqb b 59)) r

-- 2.4: "Any ASCII punctuation character may be backslash-escaped". "Backslashes before other characters are treated as literal
-- backslashes". b is a backslash that escapes the byte behind it
unfoldable pub escapes : ℕ → Bytes → Bool
escapes b [] = false
escapes b (c ∷ r) = eqb b 92 && punctuation c

unfoldable pub referred : Option Bytes → ℕ → Bytes × ℕ
referred none n = (38 ∷ [], 0)
referred (some s) n = (s, n)

-- what b means where r stands behind it, and how many bytes of r belong to that
unfoldable pub unit : References → ℕ → Bytes → Bytes × ℕ
unit known b r =
    cond (escapes b r) (take 1 r, 1)
    (cond (eqb b 38 && isin 59 r) (referred (known (ref_name r)) (suc (length (ref_name r)))) (b ∷ [], 0))

-- 2.5: "Entity and numeric character references are recognized in any context besides code spans or code blocks, including URLs,
-- link titles, and fenced code block info strings". An escaped `&` begins none: 2.4: "Escaped characters are treated as regular
-- characters and do not have their usual Markdown meanings". The first k bytes belong to what stands before
unfoldable pub meaning : References → ℕ → Bytes → Bytes
meaning known k [] = []
meaning known (suc k) (b ∷ r) = meaning known k r
meaning known zero (b ∷ r) = let u = unit known b r in u.0 ++ meaning known u.1 r

-- ---- destinations

-- 6.3: "a sequence of zero or more characters between an opening < and a closing > that contains no line endings or unescaped < or >
-- characters". From behind the opening; the state is whether an unescaped backslash stands before
unfoldable pub pointed : Bool → Bytes → Bool
pointed s [] = false
pointed s (b ∷ r) =
    cond (not (escaped s b) && eqb b 62) (null r)
    ((escaped s b || not (isin b (10 ∷ 13 ∷ 60 ∷ []))) && pointed (slashed s b) r)

-- 2.1: "An ASCII control character is a character between U+0000–1F (both including) or U+007F."
unfoldable pub control : ℕ → Bool
control b = leb b 31 || eqb b 127

-- how many parentheses are open behind b, where n are open before it; e: it is escaped
unfoldable pub open_behind : Bool → ℕ → ℕ → ℕ
open_behind e n b = cond e n (cond (eqb b 40) (suc n) (cond (eqb b 41) (n - 1) n))

-- b closes one, and none is open
unfoldable pub closes_none : Bool → ℕ → ℕ → Bool
closes_none e n b = not e && (eqb b 41 && eqb n 0)

-- 6.3: "does not include ASCII control characters or space character, and includes parentheses only if (a) they are
-- backslash-escaped or (b) they are part of a balanced pair of unescaped parentheses"
unfoldable pub balanced : ℕ → Bool → Bytes → Bool
balanced n s [] = eqb n 0
balanced n s (b ∷ r) =
    not (control b || (eqb b 32 || closes_none (escaped s b) n b)) && balanced (open_behind (escaped s b) n b) (slashed s b) r

-- 6.3: "A link destination consists of either" the one "or a nonempty sequence of characters that does not start with <", the other
unfoldable pub link_destination : Bytes → Bool
link_destination s = cond (head_is 60 s) (pointed false (drop 1 s)) (not (null s) && balanced 0 false s)

-- the text that a destination stands for
unfoldable pub destination_meaning : References → Bytes → Bytes
destination_meaning known s = meaning known 0 (cond (head_is 60 s) (inner s) s)

-- ---- titles

-- from behind the opening: no byte c that is not escaped but the last, and no o
unfoldable pub enclosed : ℕ → ℕ → Bool → Bytes → Bool
enclosed o c s [] = false
enclosed o c s (b ∷ r) =
    cond (not (escaped s b) && eqb b c) (null r) ((escaped s b || not (eqb b o)) && enclosed o c (slashed s b) r)

unfoldable pub enclosed_by : ℕ → ℕ → Bytes → Bool
enclosed_by o c s = head_is o s && enclosed o c false (drop 1 s)

unfoldable pub no_blank_line : List Bytes → Bool
no_blank_line [] = true
no_blank_line (l ∷ ls) = not (blank_line l) && no_blank_line ls

-- 6.3: "A link title consists of either a sequence of zero or more characters between straight double-quote characters ("), including
-- a " character only if it is backslash-escaped, or a sequence of zero or more characters between straight single-quote characters
-- ('), including a ' character only if it is backslash-escaped, or a sequence of zero or more characters between matching parentheses
-- ((...)), including a ( or ) character only if it is backslash-escaped. Although link titles may span multiple lines, they may not
-- contain a blank line."
unfoldable pub link_title : Bytes → Bool
link_title s = (enclosed_by 34 34 s || (enclosed_by 39 39 s || enclosed_by 40 41 s)) && no_blank_line (lines s)

-- the text that a title stands for
unfoldable pub title_meaning : References → Bytes → Bytes
title_meaning known s = meaning known 0 (inner s)
