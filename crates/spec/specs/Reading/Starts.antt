-- What a line, its indentation gone, begins (CommonMark 0.31, sections 4.1 to 4.6, 5.1 and 5.2).
use Rattle.std.specs.Prelude.{ℕ, zero, suc, Bool, true, false, cond, not, ◌&&◌, ◌||◌, [], ◌∷◌, length, eqb, leb}
use Rattle.std.proofs.Math.Option.{Option, none, some}
use Rattle.spec.specs.Bytes.{Bytes, isin, digit, take_while, value_from}
use Rattle.spec.specs.Reading.Lines.{space_or_tab, blank_line, run, drop_run, drop_while}
use Rattle.spec.specs.Reading.Html.{html_kind}

-- a heading has its level and raw content; an HTML block its kind; a fence its byte, its length and its info string; an item its
-- number, or none, its marker's width and what stands behind the marker
pub data Start : Type 0 where
  text_start rule_start quote_start underline_start : Start
  heading_start : ℕ → Bytes → Start
  html_start : ℕ → Start
  fence_start : ℕ → ℕ → Bytes → Start
  item_start : Option ℕ → ℕ → Bytes → Start

-- ---- thematic breaks

-- 4.1: "A line consisting of optionally up to three spaces of indentation, followed by a sequence of three or more matching -, _,
-- or * characters, each followed optionally by any number of spaces or tabs, forms a thematic break." n are read so far
unfoldable pub thematic_break : ℕ → ℕ → Bytes → Bool
thematic_break c n [] = leb 3 n
thematic_break c n (b ∷ r) = (eqb b c || space_or_tab b) && thematic_break c (cond (eqb b c) (suc n) n) r

-- ---- headings

-- 4.2: "The optional closing sequence of #s must be preceded by spaces or tabs and may be followed by spaces or tabs only."
unfoldable pub closing_sequence : Bytes → Bool
closing_sequence r = blank_line (drop_run 35 r)

unfoldable pub without_closing : Bytes → Bytes
without_closing [] = []
without_closing (b ∷ r) = cond (space_or_tab b && closing_sequence r) [] (b ∷ without_closing r)

-- "followed by spaces or tabs, or by the end of line"
unfoldable pub ends : Bytes → Bool
ends [] = true
ends (b ∷ r) = space_or_tab b

-- 4.2: "An ATX heading consists of a string of characters, parsed as inline content, between an opening sequence of 1–6 unescaped
-- # characters and an optional closing sequence of any number of unescaped # characters. The opening sequence of # characters
-- must be followed by spaces or tabs, or by the end of line."
unfoldable pub atx_heading_by : Bool → ℕ → Bytes → Start
atx_heading_by true n r = heading_start n (without_closing r)
atx_heading_by false n r = text_start

unfoldable pub atx_heading : ℕ → Bytes → Start
atx_heading n r = atx_heading_by (leb n 6 && ends r) n r

-- 4.3: "A setext heading underline is a sequence of = characters or a sequence of - characters, with no more than 3 spaces of
-- indentation and any number of trailing spaces or tabs."
unfoldable pub underline : Bytes → Bool
underline [] = false
underline (b ∷ r) = (eqb b 61 && blank_line (drop_run 61 r)) || (eqb b 45 && blank_line (drop_run 45 r))

-- ---- fences

-- 4.5: "A code fence is a sequence of at least three consecutive backtick characters (`) or tildes (~)." "If the info string comes
-- after a backtick fence, it may not contain any backtick characters."
unfoldable pub fence_by : Bool → ℕ → ℕ → Bytes → Start
fence_by true c n r = fence_start c n r
fence_by false c n r = text_start

unfoldable pub fence : ℕ → ℕ → Bytes → Start
fence c n r = fence_by (leb 3 n && not (eqb c 96 && isin 96 r)) c n r

-- 4.5: "a closing code fence of the same type as the code block began with (backticks or tildes), and with at least as many
-- backticks or tildes as the opening code fence"; it "may be followed only by spaces or tabs"
unfoldable pub closing_fence : ℕ → ℕ → Bytes → Bool
closing_fence c n r = leb n (run c r) && blank_line (drop_run c r)

-- ---- list markers

-- 5.2: "A bullet list marker is a -, +, or * character." A marker is followed by at least one space of indentation, or the item
-- starts with a blank line
unfoldable pub bullet_by : Bool → Bytes → Start
bullet_by true r = item_start none 1 r
bullet_by false r = text_start

unfoldable pub bullet : Bytes → Start
bullet r = bullet_by (ends r) r

-- 4.1: "When both a thematic break and a list item are possible interpretations of a line, the thematic break takes precedence"
unfoldable pub rule_or : Bool → Start → Start
rule_or true s = rule_start
rule_or false s = s

-- 5.2: "An ordered list marker is a sequence of 1–9 arabic digits (0-9), followed by either a . character or a ) character."
unfoldable pub number_by : Bool → Bytes → Bytes → Start
number_by true ds r = item_start (some (value_from 0 ds)) (suc (length ds)) r
number_by false ds r = text_start

unfoldable pub number : Bytes → Bytes → Start
number ds [] = text_start
number ds (b ∷ r) = number_by ((eqb b 46 || eqb b 41) && (leb (length ds) 9 && ends r)) ds r

-- ---- the line

unfoldable pub html : ℕ → Start
html zero = text_start
html (suc k) = html_start (suc k)

-- the first byte of a line
pub data Lead : Type 0 where
  hash_lead quote_lead angle_lead fence_lead rule_lead star_lead plus_lead digit_lead other_lead : Lead

unfoldable pub lead : ℕ → Lead
lead b =
    cond (eqb b 35) hash_lead (cond (eqb b 62) quote_lead (cond (eqb b 60) angle_lead (cond (eqb b 96 || eqb b 126) fence_lead
    (cond (eqb b 95) rule_lead (cond (eqb b 45 || eqb b 42) star_lead (cond (eqb b 43) plus_lead
    (cond (digit b) digit_lead other_lead)))))))

-- 5.1: "A block quote marker, optionally preceded by up to three spaces of indentation, consists of (a) the character > together
-- with a following space of indentation, or (b) a single character > not followed by a space of indentation."
unfoldable pub start_by : Lead → ℕ → Bytes → Start
start_by hash_lead b r = atx_heading (suc (run 35 r)) (drop_run 35 r)
start_by quote_lead b r = quote_start
start_by angle_lead b r = html (html_kind r)
start_by fence_lead b r = fence b (suc (run b r)) (drop_run b r)
start_by rule_lead b r = rule_or (thematic_break b 1 r) text_start
start_by star_lead b r = rule_or (thematic_break b 1 r) (bullet r)
start_by plus_lead b r = bullet r
start_by digit_lead b r = number (b ∷ take_while digit r) (drop_while digit r)
start_by other_lead b r = text_start

unfoldable pub start : Bytes → Start
start [] = text_start
start (b ∷ r) = start_by (lead b) b r

-- ---- what may stand where a paragraph is open

-- 5.2: "When the first list item in a list interrupts a paragraph—that is, when it starts on a line that would otherwise count as
-- paragraph continuation text—then (a) the lines Ls must not begin with a blank line, and (b) if the list item is ordered, the
-- start number must be 1."
unfoldable pub starts_at_one : Option ℕ → Bool
starts_at_one none = true
starts_at_one (some n) = eqb n 1

unfoldable pub start_if : Bool → Start → Start
start_if true s = s
start_if false s = text_start

-- 4.6: "All types of HTML blocks except type 7 may interrupt a paragraph."
unfoldable pub interrupting : Start → Start
interrupting text_start = text_start
interrupting rule_start = rule_start
interrupting quote_start = quote_start
interrupting underline_start = underline_start
interrupting (heading_start n r) = heading_start n r
interrupting (html_start k) = start_if (not (eqb k 7)) (html_start k)
interrupting (fence_start c n r) = fence_start c n r
interrupting (item_start n w r) = start_if (not (blank_line r) && starts_at_one n) (item_start n w r)

unfoldable pub underline_or : Bool → Start → Start
underline_or true s = underline_start
underline_or false s = interrupting s

-- 4.3: "The setext heading underline cannot be a lazy continuation line in a list item or block quote". 4.1: "If a line of dashes
-- that meets the above conditions for being a thematic break could also be interpreted as the underline of a setext heading, the
-- interpretation as a setext heading takes precedence." Whether a paragraph goes on here with all its items comes first
unfoldable pub start_in : Bool → Bytes → Start
start_in false r = start r
start_in true r = underline_or (underline r) (start r)
