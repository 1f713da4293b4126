-- The content of an ATX heading, and hard line breaks (CommonMark 0.31, sections 4.2 and 6.7); thematic breaks, the opening of
-- headings and list markers are in Reading/Starts.
use Rattle.std.specs.Prelude.{Bool, true, false, not, ◌&&◌, ◌||◌, [], ◌∷◌, leb}
use Rattle.spec.specs.Bytes.{Bytes, ends_with, one, trim_end_matches}
use Rattle.spec.specs.Reading.Lines.{space_or_tab, blank_line, column, strip}
use Rattle.spec.specs.Reading.Starts.{
  Start,
  text_start,
  rule_start,
  quote_start,
  underline_start,
  heading_start,
  html_start,
  fence_start,
  item_start,
  without_closing,
  start_in,
}

-- a line that begins no block but, perhaps, a paragraph
unfoldable pub is_text_start : Start → Bool
is_text_start text_start = true
is_text_start rule_start = false
is_text_start quote_start = false
is_text_start underline_start = false
is_text_start (heading_start n r) = false
is_text_start (html_start k) = false
is_text_start (fence_start c n r) = false
is_text_start (item_start n w r) = false

-- ---- headings

unfoldable pub stripped : Bytes → Bytes
stripped r = strip (trim_end_matches (one space_or_tab) r)

-- 4.2: "The raw contents of the heading are stripped of leading and trailing spaces or tabs before being parsed as inline
-- content." r is what stands behind the opening sequence
unfoldable pub heading_content : Bytes → Bytes
heading_content r = stripped (without_closing r)

-- ---- hard line breaks

-- 4.8: "A sequence of non-blank lines that cannot be interpreted as other kinds of blocks forms a paragraph." 4.4: "An indented code
-- block cannot interrupt a paragraph". The line goes on with the paragraph before it
unfoldable pub continues : Bytes → Bool
continues l = not (blank_line l) && (leb 4 (column 0 l) || is_text_start (start_in true (strip l)))

-- 6.7: "A line ending (not in a code span or HTML tag) that is preceded by two or more spaces and does not occur at the end of a
-- block is parsed as a hard line break". The line ending stands between line l of a paragraph and the line `next`
unfoldable pub hard_break : Bytes → Bytes → Bool
hard_break l next = not (blank_line l) && (ends_with (32 ∷ 32 ∷ []) l && continues next)
