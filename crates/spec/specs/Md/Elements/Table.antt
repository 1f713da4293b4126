-- `elements/table.rs`.
use Rattle.std.specs.Prelude.{ℕ, zero, suc, ◌+◌, ◌-◌, ◌%◌, max, Bool, true, false, cond, not, ◌&&◌, ◌||◌, List, [], ◌∷◌, ◌++◌, map, length, replicate, eqb}
use Rattle.spec.specs.Bytes.{Bytes, ascii, null, ends_with, join}
use Rattle.spec.specs.Names as tag
use Rattle.spec.specs.Names.{tag_of}
use Rattle.spec.specs.Tree.{Attr, Forest, nothing, text, comment, element}
use Rattle.spec.specs.Out.{Out, Step, cut, keep, push, replace, and_then, beside, nested_all}
use Rattle.spec.specs.Md.Ctx.{fresh, table_cell}
use Rattle.spec.specs.Md.TextUtils.{trim_trailing_space, trim_blanks}
use Rattle.spec.specs.Md.MDSerializer.{Ancestors, MDSerializer, write_kids}
use Rattle.spec.specs.Md.Elements.Emphasis.{backslashes, drop_end}
use Rattle.spec.specs.Md.Elements.Link.{has_element}
use Rattle.spec.specs.declared.ctx.FormatOpts.{FormatOpts}

-- ---- line breaks in cells

-- `\<br>` is text, `\\<br>` an escaped backslash and a line break
unfoldable pub ends_with_cell_break : Bytes → Bool
ends_with_cell_break s = ends_with (ascii "<br>") s && eqb (backslashes (drop_end 4 s) % 2) 0

unfoldable pub add_cell_block_break : Bytes → Step
add_cell_block_break linebreak t =
    and_then (trim_trailing_space t)
    (λ u. cond (null u || ends_with_cell_break u) (keep u) (push linebreak u))

-- at most n breaks and the blanks before each
unfoldable pub without_breaks : ℕ → Bytes → Bytes
without_breaks zero s = s
without_breaks (suc n) s =
    let shorter = without_breaks n (trim_blanks (drop_end 4 s)) in
    cond (ends_with_cell_break s) shorter s

unfoldable pub trim_trailing_cell_break : Step
trim_trailing_cell_break = cut (λ s. without_breaks (length s) s)

-- document 01: "A pipe in a cell gains a backslash unless one is just before it." `before` says that one is
unfoldable pub pipes_escaped : Bool → Bytes → Bytes
pipes_escaped before [] = []
pipes_escaped before (b ∷ s) = cond (eqb b 124 && not before) (ascii "\\") [] ++ (b ∷ pipes_escaped (eqb b 92) s)

unfoldable pub escape_table_cell_inplace : Step
escape_table_cell_inplace = replace (pipes_escaped false)

-- ---- rows and cells

-- a cell, with the attributes of the elements around it; it has the name `th`, or else `td`
pub record Cell : Type 0 where
  pub ancestors : Ancestors
  pub is_th : Bool
  pub node : Forest

unfoldable pub is_table_cell : ℕ → Bool
is_table_cell name = eqb name tag.th || eqb name tag.td

-- the cells among the children of a row
unfoldable pub cells_of : Ancestors → Forest → List Cell
cells_of anc nothing = []
cells_of anc (text s rest) = cells_of anc rest
cells_of anc (comment s rest) = cells_of anc rest
cells_of anc (element name attrs kids rest) =
    cond (is_table_cell (tag_of name))
    (record { ancestors = anc; is_th = eqb (tag_of name) tag.th; node = element name attrs kids nothing } ∷ cells_of anc rest)
    (cells_of anc rest)

-- document 01: "Table rows are all `tr` below the table in document order", each by its cells
unfoldable pub rows_of : Ancestors → Forest → List (List Cell)
rows_of anc nothing = []
rows_of anc (text s rest) = rows_of anc rest
rows_of anc (comment s rest) = rows_of anc rest
rows_of anc (element name attrs kids rest) =
    cond (eqb (tag_of name) tag.tr) (cells_of (attrs ∷ anc) kids ∷ []) []
    ++ (rows_of (attrs ∷ anc) kids ++ rows_of anc rest)

-- the rows from the first that has cells
unfoldable pub from_cells : List (List Cell) → List (List Cell)
from_cells [] = []
from_cells ([] ∷ rows) = from_cells rows
from_cells ((c ∷ row) ∷ rows) = (c ∷ row) ∷ rows

unfoldable pub all_th : List Cell → Bool
all_th [] = true
all_th (c ∷ row) = c.is_th && all_th row

-- document 01: "The first row having cells is the heading only if all its cells are `th`."
unfoldable pub table_header_row : List (List Cell) → List Cell
table_header_row [] = []
table_header_row (row ∷ rows) = cond (all_th row) row []

-- the rows that are not the heading
unfoldable pub data_rows : List (List Cell) → List (List Cell)
data_rows [] = []
data_rows (row ∷ rows) = cond (all_th row) rows (row ∷ rows)

-- behind the first row that has cells every row has as many; `common` of them, 0 before that row
unfoldable pub equal_rows : ℕ → List (List Cell) → Bool
equal_rows common [] = true
equal_rows zero (row ∷ rows) = equal_rows (length row) rows
equal_rows (suc n) (row ∷ rows) = eqb (length row) (suc n) && equal_rows (suc n) rows

-- `rows` begin with one that has cells. A row without cells before it changes nothing
unfoldable pub is_table_node_writable : Forest → List (List Cell) → Bool
is_table_node_writable kids rows =
    not (null rows) && (not (has_element tag.table kids) && equal_rows 0 (data_rows rows))

-- ---- the table

unfoldable pub cell_text : MDSerializer → FormatOpts → Cell → Out
cell_text self opts c =
    and_then
    (and_then (write_kids self c.ancestors (table_cell (fresh opts)) c.node []) trim_trailing_cell_break)
    escape_table_cell_inplace

unfoldable pub row_texts : MDSerializer → FormatOpts → List Cell → List Out
row_texts self opts [] = []
row_texts self opts (c ∷ row) = cell_text self opts c ∷ row_texts self opts row

-- the rows that have cells
unfoldable pub table_texts : MDSerializer → FormatOpts → List (List Cell) → List (List Out)
table_texts self opts [] = []
table_texts self opts (row ∷ rows) =
    cond (null row) (table_texts self opts rows) (row_texts self opts row ∷ table_texts self opts rows)

unfoldable pub texts : List Out → List Bytes
texts [] = []
texts (o ∷ os) = o.text ∷ texts os

unfoldable pub concat : {A : Type 0} → List (List A) → List A
concat [] = []
concat (x ∷ xs) = x ++ concat xs

unfoldable pub width_of : List (List Out) → ℕ
width_of [] = 0
width_of (row ∷ rows) = length row

-- blank headings until there are n
unfoldable pub filled_up : ℕ → List Bytes → List Bytes
filled_up n headings = headings ++ replicate (n - length headings) (ascii " ")

unfoldable pub line : List Bytes → Bytes
line cells = ascii "| " ++ (join (ascii " | ") cells ++ ascii " |\n")

unfoldable pub dashes : Bytes → Bytes
dashes s = replicate (max (length s) 1) 45

unfoldable pub lines : List (List Out) → Bytes
lines [] = []
lines (row ∷ rows) = line (texts row) ++ lines rows

-- The cells, and the blank headings, count until the last line is written
unfoldable pub table_of : List Out → List (List Out) → Step
table_of heading rows =
    let headings = filled_up (width_of rows) (texts heading) in
    let counted = length (concat headings) + length (concat (texts (concat rows))) in
    let written = ascii "\n" ++ (line headings ++ (line (map dashes headings) ++ lines rows)) in
    nested_all (heading ++ concat rows)
    (λ t. and_then (beside counted (push written t)) (push (ascii "\n")))

unfoldable pub write_table : MDSerializer → Ancestors → FormatOpts → Bytes → List Attr → Forest → Step
write_table self anc opts name attrs kids t =
    let rows = from_cells (rows_of (attrs ∷ anc) kids) in
    cond (is_table_node_writable kids rows)
    (table_of (row_texts self opts (table_header_row rows)) (table_texts self opts (data_rows rows)) t)
    (write_kids self anc (fresh opts) (element name attrs kids nothing) t)
