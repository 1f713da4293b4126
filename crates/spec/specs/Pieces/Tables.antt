-- Whole tables and the text of a cell (GitHub Flavored Markdown, section 4.10).
use Rattle.std.specs.Prelude.{ℕ, Bool, cond, not, ◌&&◌, ◌||◌, List, [], ◌∷◌, map, eqb, length}
use Rattle.std.proofs.Math.Option.{Option, none, some}
use Rattle.spec.specs.Bytes.{Bytes, one, trim_end_matches}
use Rattle.spec.specs.Reading.Lines.{head_is, drop_while, blank_line}
use Rattle.spec.specs.Reading.Starts.{start}
use Rattle.spec.specs.Reading.Tables.{cell_blank, row, delimiter_row, fit}
use Rattle.spec.specs.Pieces.Lines.{is_text_start}

-- ---- cells

-- GFM: "Include a pipe in a cell's content by escaping it, including inside other inline spans". What a cell means that is written
-- as c: a backslash straight before a pipe goes
unfoldable pub cell_text : Bytes → Bytes
cell_text [] = []
cell_text (b ∷ r) = cond (eqb b 92 && head_is 124 r) (cell_text r) (b ∷ cell_text r)

-- GFM: "Spaces between pipes and cell content are trimmed."
unfoldable pub cell_content : Bytes → Bytes
cell_content c = trim_end_matches (one cell_blank) (drop_while cell_blank c)

unfoldable pub cell_contents : Bytes → List Bytes
cell_contents l = map cell_content (row l)

-- ---- tables

pub record Table : Type 0 where
  pub headings : List Bytes
  pub rows : List (List Bytes)

-- GFM: "The table is broken at the first empty line, or beginning of another block-level structure"
unfoldable pub breaks_table : Bytes → Bool
breaks_table l = blank_line l || not (is_text_start (start l))

unfoldable pub table_rows : ℕ → List Bytes → List (List Bytes)
table_rows n [] = []
table_rows n (l ∷ ls) = cond (breaks_table l) [] (fit n (cell_contents l) ∷ table_rows n ls)

-- GFM: "A table is an arrangement of data with rows and columns, consisting of a single header row, a delimiter row separating the
-- header from the data, and zero or more data rows." "The header row must match the delimiter row in the number of cells. If not,
-- a table will not be recognized". The lines begin with the header row
unfoldable pub table_in : List Bytes → Option Table
table_in [] = none
table_in (h ∷ []) = none
table_in (h ∷ d ∷ ls) =
    cond (delimiter_row (row d) && eqb (length (row h)) (length (row d)))
    (some (record { headings = cell_contents h; rows = table_rows (length (row h)) ls })) none
