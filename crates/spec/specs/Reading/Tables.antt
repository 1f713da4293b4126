-- The rows of a table (GitHub Flavored Markdown, section 4.10).
use Rattle.std.specs.Prelude.{ℕ, zero, suc, Bool, true, false, cond, not, ◌&&◌, List, [], ◌∷◌, eqb}
use Rattle.spec.specs.Bytes.{Bytes, isin, every, null}
use Rattle.spec.specs.Reading.Lines.{drop_while, drop_run, head_is}

-- GFM 2.1: "A whitespace character is a space (U+0020), tab (U+0009), newline (U+000A), line tabulation (U+000B), form feed
-- (U+000C), or carriage return (U+000D)." Those that stand in a line
unfoldable pub cell_blank : ℕ → Bool
cell_blank b = isin b (32 ∷ 9 ∷ 11 ∷ 12 ∷ [])

unfoldable pub blank_cell : Bytes → Bool
blank_cell c = every cell_blank c

-- ---- cells

-- the bytes of the cell in hand, and the cells behind it
abbrev pub Cells : Type 0
Cells = Bytes × List Bytes

unfoldable pub in_cell : ℕ → Cells → Cells
in_cell b p = (b ∷ p.0, p.1)

-- "Each row consists of cells containing arbitrary text, in which inlines are parsed, separated by pipes (|)." "Include a
-- pipe in a cell's content by escaping it, including inside other inline spans". A pipe straight behind a backslash
-- belongs to the cell, and that backslash goes; so a backslash is held back until the next byte is known. The arguments: is one
-- held back, is the byte a pipe, is it a backslash
unfoldable pub cell_byte : Bool → Bool → Bool → ℕ → Cells → Cells
cell_byte true true k b p = in_cell b p
cell_byte true false true b p = in_cell b p
cell_byte true false false b p = in_cell 92 (in_cell b p)
cell_byte false true k b p = ([], p.0 ∷ p.1)
cell_byte false false true b p = p
cell_byte false false false b p = in_cell b p

unfoldable pub cells : Bool → Bytes → Cells
cells true [] = (92 ∷ [], [])
cells false [] = ([], [])
cells s (b ∷ r) = cell_byte s (eqb b 124) (eqb b 92) b (cells (eqb b 92) r)

-- "A leading and trailing pipe is also recommended for clarity of reading, and if there's otherwise parsing ambiguity." Behind a
-- trailing pipe no cell begins
unfoldable pub untrailed : List Bytes → List Bytes
untrailed [] = []
untrailed (c ∷ cs) = cond (null cs) (cond (blank_cell c) [] (c ∷ [])) (c ∷ untrailed cs)

unfoldable pub piped : Cells → List Bytes
piped p = untrailed (p.0 ∷ p.1)

unfoldable pub unpiped : Cells → List Bytes
unpiped p = p.0 ∷ untrailed p.1

-- the cells of a line that begins with no blank
unfoldable pub row_by : Bool → ℕ → Bytes → List Bytes
row_by true b r = piped (cells false r)
row_by false b r = unpiped (cells false (b ∷ r))

unfoldable pub row : Bytes → List Bytes
row [] = []
row (b ∷ r) = row_by (eqb b 124) b r

-- ---- the delimiter row

-- "The delimiter row consists of cells whose only content are hyphens (-), and optionally, a leading or trailing colon (:), or
-- both, to indicate left, right, or center alignment respectively."
unfoldable pub drop_colon : Bytes → Bytes
drop_colon [] = []
drop_colon (b ∷ r) = cond (eqb b 58) r (b ∷ r)

unfoldable pub hyphens : Bytes → Bool
hyphens r = head_is 45 r && blank_cell (drop_colon (drop_run 45 r))

unfoldable pub delimiter_cell : Bytes → Bool
delimiter_cell c = hyphens (drop_colon (drop_while cell_blank c))

unfoldable pub delimiter_cells : List Bytes → Bool
delimiter_cells [] = true
delimiter_cells (c ∷ cs) = delimiter_cell c && delimiter_cells cs

unfoldable pub delimiter_row : List Bytes → Bool
delimiter_row cs = not (null cs) && delimiter_cells cs

-- ---- the other rows

-- "The remainder of the table's rows may vary in the number of cells. If there are a number of cells fewer than the number of cells in the
-- header row, empty cells are inserted. If there are greater, the excess is ignored"
unfoldable pub fit : ℕ → List Bytes → List Bytes
fit zero cs = []
fit (suc n) [] = [] ∷ fit n []
fit (suc n) (c ∷ cs) = c ∷ fit n cs
