-- Inline links and images as wholes: where their text, destination and title part (CommonMark 0.31, sections 6.3 and 6.4). Assumes
-- nothing.
use Rattle.std.specs.Prelude.{ℕ, zero, suc, ◌-◌, Bool, true, false, cond, not, ◌&&◌, ◌||◌, [], ◌∷◌, eqb, length, drop}
use Rattle.std.proofs.Math.Option.{Option, none, some}
use Rattle.spec.specs.Bytes.{Bytes, isin}
use Rattle.spec.specs.Reading.Lines.{space_or_tab, head_is, drop_while, run, drop_run, lines}
use Rattle.spec.specs.Reading.Inline.{escaped, slashed, anywhere, link}
use Rattle.spec.specs.Pieces.CodeSpans.{preceded, up_to}
use Rattle.spec.specs.Pieces.Links.{control, open_behind, closes_none, no_blank_line}

-- A pair is what belongs to a part and what stands behind it. The state of a scan is whether an unescaped backslash stands before

-- ---- the text of a link

-- how many bytes of r belong to the code span that a backtick before r begins, or else to its backtick string
unfoldable pub span_by : Option (Bytes × Bytes) → Bytes → ℕ
span_by none r = run 96 r
span_by (some p) r = length r - length p.1

unfoldable pub span_length : Bytes → ℕ
span_length r = span_by (up_to (suc (run 96 r)) 0 (drop_run 96 r)) r

-- how many brackets are open behind b, and how many bytes behind it belong to a code span; e: it is escaped
unfoldable pub brackets_behind : Bool → ℕ → ℕ → ℕ
brackets_behind e n b = cond e n (cond (eqb b 91) (suc n) (cond (eqb b 93) (n - 1) n))

unfoldable pub span_behind : Bool → ℕ → Bytes → ℕ
span_behind e b r = cond (not e && eqb b 96) (span_length r) 0

-- 6.3: "A link text consists of a sequence of zero or more inline elements enclosed by square brackets ([ and ])." "Brackets are
-- allowed in the link text only if (a) they are backslash-escaped or (b) they appear as a matched pair of brackets". "Backtick code
-- spans, autolinks, and raw HTML tags bind more tightly than the brackets in link text." Up to the bracket that closes it; n are
-- open inside, and the first k bytes belong to a code span. Autolinks and tags are not looked for: a text with a bracket or a
-- backtick in one of them is not meant
unfoldable pub link_text : ℕ → Bool → ℕ → Bytes → Option (Bytes × Bytes)
link_text n s k [] = none
link_text n s (suc k) (b ∷ r) = preceded (b ∷ []) (link_text n false k r)
link_text n s zero (b ∷ r) =
    cond (not (escaped s b) && (eqb b 93 && eqb n 0)) (some ([], r))
    (preceded (b ∷ []) (link_text (brackets_behind (escaped s b) n b) (slashed s b) (span_behind (escaped s b) b r) r))

-- a text that can stand between the brackets: those inside are escaped or balanced, code spans are closed, and no backslash waits
-- at the end
unfoldable pub is_some : Option (Bytes × Bytes) → Bool
is_some none = false
is_some (some p) = true

unfoldable pub span_closes : Bytes → Bool
span_closes r = is_some (up_to (suc (run 96 r)) 0 (drop_run 96 r))

unfoldable pub balanced_text : ℕ → Bool → ℕ → Bytes → Bool
balanced_text n s k [] = eqb n 0 && (not s && eqb k 0)
balanced_text n s (suc k) (b ∷ r) = balanced_text n false k r
balanced_text n s zero (b ∷ r) =
    not (not (escaped s b) && (eqb b 93 && eqb n 0))
    && ((not (not (escaped s b) && eqb b 96) || span_closes r)
    && balanced_text (brackets_behind (escaped s b) n b) (slashed s b) (span_behind (escaped s b) b r) r)

-- ---- destinations and titles

-- 6.3: "These four components may be separated by spaces, tabs, and up to one line ending."
unfoldable pub without_ending : Bytes → Bytes
without_ending [] = []
without_ending (b ∷ r) = cond (eqb b 10) r (cond (eqb b 13) (cond (head_is 10 r) (drop 1 r) r) (b ∷ r))

unfoldable pub after_space : Bytes → Bytes
after_space s = drop_while space_or_tab (without_ending (drop_while space_or_tab s))

-- a destination of the first kind of 6.3, from behind its `<` to its `>`: "contains no line endings or unescaped < or > characters"
unfoldable pub pointed_up_to : Bool → Bytes → Option (Bytes × Bytes)
pointed_up_to s [] = none
pointed_up_to s (b ∷ r) =
    cond (not (escaped s b) && eqb b 62) (some (b ∷ [], r))
    (cond (not (escaped s b) && isin b (10 ∷ 13 ∷ 60 ∷ [])) none (preceded (b ∷ []) (pointed_up_to (slashed s b) r)))

-- one of the other kind: up to a space, a control character, or a parenthesis that closes none; n parentheses are open
unfoldable pub bare_up_to : ℕ → Bool → Bytes → Option (Bytes × Bytes)
bare_up_to n s [] = cond (eqb n 0) (some ([], [])) none
bare_up_to n s (b ∷ r) =
    cond (control b || (eqb b 32 || closes_none (escaped s b) n b)) (cond (eqb n 0) (some ([], b ∷ r)) none)
    (preceded (b ∷ []) (bare_up_to (open_behind (escaped s b) n b) (slashed s b) r))

-- the destination that s begins with; nothing where there is none
unfoldable pub destination_of : Bytes → Option (Bytes × Bytes)
destination_of s = cond (head_is 60 s) (preceded (60 ∷ []) (pointed_up_to false (drop 1 s))) (bare_up_to 0 false s)

-- a title, from behind the byte o that opens it to the byte c that closes it; "including a ( or ) character only if it is
-- backslash-escaped"
unfoldable pub title_up_to : ℕ → ℕ → Bool → Bytes → Option (Bytes × Bytes)
title_up_to o c s [] = none
title_up_to o c s (b ∷ r) =
    cond (not (escaped s b) && eqb b c) (some (b ∷ [], r))
    (cond (not (escaped s b) && eqb b o) none (preceded (b ∷ []) (title_up_to o c (slashed s b) r)))

unfoldable pub title_of : Bytes → Option (Bytes × Bytes)
title_of [] = none
title_of (b ∷ r) = preceded (b ∷ []) (title_up_to b (cond (eqb b 40) 41 b) false r)

unfoldable pub opens_title : Bytes → Bool
opens_title s = head_is 34 s || (head_is 39 s || head_is 40 s)

-- ---- the whole

-- a link's text, its destination and its title as they are written, nothing where it has none, and what stands behind the link
pub record Link : Type 0 where
  pub text : Bytes
  pub destination : Bytes
  pub title : Bytes
  pub behind : Bytes

-- "and a right parenthesis )"
unfoldable pub closing : Bytes → Bytes → Bytes → Bytes → Option Link
closing t d q s = cond (head_is 41 s) (some (record { text = t; destination = d; title = q; behind = drop 1 s })) none

-- "Although link titles may span multiple lines, they may not contain a blank line."
unfoldable pub titled : Bytes → Bytes → Option (Bytes × Bytes) → Option Link
titled t d none = none
titled t d (some p) = cond (no_blank_line (lines p.0)) (closing t d p.0 (after_space p.1)) none

-- "If both link destination and link title are present, they must be separated by spaces, tabs, and up to one line ending."
unfoldable pub with_destination : Bytes → Option (Bytes × Bytes) → Option Link
with_destination t none = none
with_destination t (some p) =
    let s = after_space p.1 in
    cond (opens_title s && not (eqb (length s) (length p.1))) (titled t p.0 (title_of s)) (closing t p.0 [] s)

-- 6.3: "An inline link consists of a link text followed immediately by a left parenthesis (, an optional link destination, an optional
-- link title, and a right parenthesis )."
unfoldable pub with_text : Option (Bytes × Bytes) → Option Link
with_text none = none
with_text (some p) = cond (head_is 40 p.1) (with_destination p.0 (destination_of (after_space (drop 1 p.1)))) none

-- the part of s that begins with a bracket and ends with a parenthesis
unfoldable pub bracketed : Bytes → Option Link
bracketed [] = none
bracketed (b ∷ r) = cond (eqb b 91) (with_text (link_text 0 false 0 r)) none

-- 6.3: "Links may not contain other links, at any level of nesting." Wider: any bracket that is not an image's, where a closing bracket
-- and a parenthesis stand behind it; p is the byte before it
unfoldable pub nested_link : ℕ → ℕ → Bytes → Bool
nested_link p b r = eqb b 91 && (not (eqb p 33) && link r)

unfoldable pub holds_link : Bytes → Bool
holds_link t = anywhere nested_link 32 false t

unfoldable pub unless_nested : Option Link → Option Link
unless_nested none = none
unless_nested (some l) = cond (holds_link l.text) none (some l)

-- the link that s begins with
unfoldable pub inline_link : Bytes → Option Link
inline_link s = unless_nested (bracketed s)

-- 6.4: "Syntax for images is like the syntax for links, with one difference. Instead of link text, we have an image description. The
-- rules for this are the same as for link text, except that (a) an image description starts with ![ rather than [, and (b) an image
-- description may contain links."
unfoldable pub inline_image : Bytes → Option Link
inline_image [] = none
inline_image (b ∷ r) = cond (eqb b 33) (bracketed r) none
