-- Fenced code blocks (CommonMark 0.31, section 4.5).
use Rattle.std.specs.Prelude.{ℕ, Bool, cond, ◌&&◌, List, [], ◌∷◌, ◌++◌, eqb, leb}
use Rattle.std.proofs.Math.Option.{Option, none, some}
use Rattle.spec.specs.Bytes.{Bytes, one, trim_end_matches}
use Rattle.spec.specs.Reading.Lines.{space_or_tab, ends_line, column, strip, unindent}
use Rattle.spec.specs.Reading.Starts.{Start, text_start, rule_start, quote_start, underline_start, heading_start, html_start, fence_start, item_start, closing_fence, start}

-- a fenced code block at the beginning of some lines
pub record Fenced : Type 0 where
  pub info : Bytes
  pub content : Bytes
  -- the lines behind the block
  pub more : List Bytes

-- 4.5: "The line with the opening code fence may optionally contain some text following the code fence; this is trimmed of leading
-- and trailing spaces or tabs and called the info string."
unfoldable pub info_string : Bytes → Bytes
info_string r = trim_end_matches (one space_or_tab) (strip r)

-- 4.5: "The closing code fence may be preceded by up to three spaces of indentation"
unfoldable pub closes : ℕ → ℕ → Bytes → Bool
closes c n l = leb (column 0 l) 3 && closing_fence c n (strip l)

-- 4.5: "The content of the code block consists of all subsequent lines, until a closing code fence". "If the end of the containing
-- block (or document) is reached and no closing code fence has been found, the code block contains all of the lines after the
-- opening code fence". The opening fence has i columns before it
unfoldable pub content_of : ℕ → ℕ → ℕ → List Bytes → Bytes × List Bytes
content_of c n i [] = ([], [])
content_of c n i (l ∷ ls) =
    let p = content_of c n i ls in
    cond (closes c n l) ([], ls) (unindent i 0 l ++ (10 ∷ p.0), p.1)

unfoldable pub fenced_by : Start → ℕ → List Bytes → Option Fenced
fenced_by text_start i ls = none
fenced_by rule_start i ls = none
fenced_by quote_start i ls = none
fenced_by underline_start i ls = none
fenced_by (heading_start n r) i ls = none
fenced_by (html_start k) i ls = none
fenced_by (fence_start c n r) i ls =
    let p = content_of c n i ls in
    some (record { info = info_string r; content = p.0; more = p.1 })
fenced_by (item_start n w r) i ls = none

-- 4.5: "A fenced code block begins with a code fence, preceded by up to three spaces of indentation."
unfoldable pub fenced : List Bytes → Option Fenced
fenced [] = none
fenced (l ∷ ls) = cond (leb (column 0 l) 3) (fenced_by (start (strip l)) (column 0 l) ls) none

-- 2.1: "A line ending is a line feed (U+000A), a carriage return (U+000D) not followed by a line feed, or a carriage return and a following
-- line feed." The text with LF for each: what the lines of a code block are, each ended
unfoldable pub line_feeds : Bytes → Bytes
line_feeds [] = []
line_feeds (b ∷ r) = cond (ends_line b r) (10 ∷ line_feeds r) (cond (eqb b 13) (line_feeds r) (b ∷ line_feeds r))
