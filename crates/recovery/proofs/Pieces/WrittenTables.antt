-- The tables of the writer, whatever their cells hold, are read with those cells.
use Rattle.std.specs.Prelude.{ℕ, zero, suc, ◌-◌, ◌≡◌, Bool, true, cond, not, ◌&&◌, eqb, length, replicate}
use Rattle.std.proofs.Common.{arith, ◌∙◌, true≢false}
use Rattle.std.proofs.Math.Numerals.{unary_clauses}
use Rattle.std.proofs.Math.Path.{refl, ap, ap₂}
use Rattle.std.proofs.Math.Bool.{false}
use mathlib.Core.List.{List, [], ◌∷◌, ◌++◌, append_assoc, map}
use Rattle.std.proofs.Math.Option.{some}
use Rattle.std.proofs.lemmas.Bool.{not-true}
use Rattle.spec.specs.Bytes.{Bytes, ascii, null, isin, every, join_rest, join}
use Rattle.spec.specs.Out.{push, replace, and_then, beside, nested_all}
use Rattle.spec.specs.Md.Ctx.{fresh, table_cell}
use Rattle.spec.specs.Md.MDSerializer.{Ancestors, MDSerializer, write_kids}
use Rattle.spec.specs.Md.Elements.Table.{Cell, trim_trailing_cell_break, pipes_escaped, escape_table_cell_inplace, rows_of, from_cells, all_th, table_header_row, data_rows, is_table_node_writable, cell_text, row_texts, table_texts, texts, width_of, filled_up, line, dashes, lines, table_of, write_table}
use Rattle.spec.specs.Tree.{Attr, Forest}
use Rattle.spec.specs.Pieces.Tables.{table_in}
use Rattle.spec.specs.Reading.Lines as reading
use Rattle.spec.specs.Reading.Lines.{safe}
use Rattle.spec.specs.Reading.Tables.{row}
use Rattle.spec.specs.declared.ctx.FormatOpts.{FormatOpts}
use Rattle.spec.proofs.Tests.{and_l, and_r, every_app}
use Rattle.recovery.proofs.Joined.{in_line, clean, last_some, safe_join, lines_join}
use Rattle.recovery.proofs.Fences.{ended}
use Rattle.recovery.proofs.Cells.{hyphens_rowed}
use Rattle.recovery.proofs.Tables.{row_line_lem, row_lines}
use Rattle.recovery.specs.Closed.{row_tail, row_line, hyphens}
use Rattle.recovery.proofs.Written.Tables.{line_row, under_text}
use Rattle.recovery.proofs.Pieces.Cells.{escaped_cells}
use Rattle.recovery.proofs.Pieces.Tables.{read_cells, read_rows, length_escaped, escaped_rows, table_lines, table_read}

-- ---- the cells' texts

-- the text of a cell before its pipes are escaped
unfoldable pub raw_cell : MDSerializer → FormatOpts → Cell → Bytes
raw_cell self opts c =
    (and_then (write_kids self c.ancestors (table_cell (fresh opts)) c.node []) trim_trailing_cell_break).text

unfoldable pub raw_cells : MDSerializer → FormatOpts → List Cell → List Bytes
raw_cells self opts [] = []
raw_cells self opts (c ∷ row) = raw_cell self opts c ∷ raw_cells self opts row

-- the rows that have cells
unfoldable pub raw_rows : MDSerializer → FormatOpts → List (List Cell) → List (List Bytes)
raw_rows self opts [] = []
raw_rows self opts (row ∷ rows) = cond (null row) (raw_rows self opts rows) (raw_cells self opts row ∷ raw_rows self opts rows)

texts_raw : (self : MDSerializer) (opts : FormatOpts) (row : List Cell) → texts (row_texts self opts row) ≡ escaped_cells (raw_cells self opts row)
unfolding texts row_texts escaped_cells raw_cells raw_cell cell_text and_then escape_table_cell_inplace replace
texts_raw self opts [] = refl
texts_raw self opts (c ∷ row) = ap (λ (xs : List Bytes). (cell_text self opts c).text ∷ xs) (texts_raw self opts row)

length_raw : (self : MDSerializer) (opts : FormatOpts) (row : List Cell) → length (row_texts self opts row) ≡ length (raw_cells self opts row)
unfolding row_texts raw_cells
length_raw self opts [] = refl
length_raw self opts (c ∷ row) = ap suc (length_raw self opts row)

unfoldable pub width_raw : List (List Bytes) → ℕ
width_raw [] = 0
width_raw (cs ∷ css) = length cs

width_raw_lem : (self : MDSerializer) (opts : FormatOpts) (rows : List (List Cell)) → width_of (table_texts self opts rows) ≡ width_raw (raw_rows self opts rows)
unfolding table_texts raw_rows width_of width_raw
width_raw_lem self opts [] = refl
width_raw_lem self opts (row ∷ rows) = go (null row) (width_raw_lem self opts rows)
  where
    go : (t : Bool) → width_of (table_texts self opts rows) ≡ width_raw (raw_rows self opts rows)
        → width_of (cond t (table_texts self opts rows) (row_texts self opts row ∷ table_texts self opts rows))
        ≡ width_raw (cond t (raw_rows self opts rows) (raw_cells self opts row ∷ raw_rows self opts rows))
    go true ih = ih
    go false ih = length_raw self opts row

escaped_app : (a b : List Bytes) → escaped_cells (a ++ b) ≡ escaped_cells a ++ escaped_cells b
unfolding escaped_cells
escaped_app [] b = refl
escaped_app (c ∷ a) b = ap (λ (l : List Bytes). pipes_escaped false c ∷ l) (escaped_app a b)

escaped_blanks : (n : ℕ) → escaped_cells (replicate n (ascii " ")) ≡ replicate n (ascii " ")
unfolding escaped_cells pipes_escaped
escaped_blanks zero = refl
escaped_blanks (suc n) = ap (λ (l : List Bytes). ascii " " ∷ l) (escaped_blanks n)

filled_escaped : (n : ℕ) (hs : List Bytes) → filled_up n (escaped_cells hs) ≡ escaped_cells (filled_up n hs)
unfolding filled_up
filled_escaped n hs =
    rw (length_escaped hs, escaped_app hs (replicate (n - length hs) (ascii " ")), escaped_blanks (n - length hs))

-- the lines of the rows
lines_raw : (self : MDSerializer) (opts : FormatOpts) (rows : List (List Cell))
    → lines (table_texts self opts rows) ≡ ended (row_lines (escaped_rows (raw_rows self opts rows)))
unfolding table_texts raw_rows escaped_rows row_lines lines ended null
lines_raw self opts [] = refl
lines_raw self opts ([] ∷ rows) = lines_raw self opts rows
lines_raw self opts ((c ∷ row) ∷ rows) =
    let cs : List Bytes = raw_cells self opts (c ∷ row) in
    let n : length (escaped_cells cs) ≡ suc (length (raw_cells self opts row)) = length_escaped cs ∙ unfold raw_cells in refl in
    let l : line (texts (row_texts self opts (c ∷ row))) ≡ row_line (escaped_cells cs) ++ ascii "\n" =
    ap line (texts_raw self opts (c ∷ row)) ∙ line_row (length (raw_cells self opts row)) (escaped_cells cs) n in
    ap₂ (λ (x y : Bytes). x ++ y) l (lines_raw self opts rows)
    ∙ append_assoc (row_line (escaped_cells cs)) (ascii "\n") (ended (row_lines (escaped_rows (raw_rows self opts rows))))

-- the headings, filled up with blank ones
unfoldable pub raw_headings : MDSerializer → FormatOpts → List (List Cell) → List Bytes
raw_headings self opts rows = filled_up (width_raw (raw_rows self opts (data_rows rows))) (raw_cells self opts (table_header_row rows))

headings_raw : (self : MDSerializer) (opts : FormatOpts) (rows : List (List Cell))
    → filled_up (width_of (table_texts self opts (data_rows rows))) (texts (row_texts self opts (table_header_row rows))) ≡ escaped_cells (raw_headings self opts rows)
unfolding raw_headings
headings_raw self opts rows =
    rw (width_raw_lem self opts (data_rows rows), texts_raw self opts (table_header_row rows))
    (filled_escaped (width_raw (raw_rows self opts (data_rows rows))) (raw_cells self opts (table_header_row rows)))

-- the first row has cells, so that there are headings
headings_some : (self : MDSerializer) (opts : FormatOpts) (c : Cell) (row : List Cell) (rows : List (List Cell))
    → null (raw_headings self opts ((c ∷ row) ∷ rows)) ≡ false
unfolding raw_headings data_rows table_header_row filled_up
headings_some self opts c row rows = go (all_th (c ∷ row))
  where
    go : (t : Bool) → null (raw_cells self opts (cond t (c ∷ row) []) ++ replicate (width_raw (raw_rows self opts (cond t rows ((c ∷ row) ∷ rows))) - length (raw_cells self opts (cond t (c ∷ row) []))) (ascii " ")) ≡ false
    go true = unfold raw_cells null in refl
    go false = unfold raw_cells raw_rows width_raw null in simp unary_clauses

-- ---- the lines

byte_line : (b : ℕ) (x r : Bytes) → in_line b ≡ true → every in_line x ≡ true → every in_line r ≡ true → every in_line (x ++ (b ∷ r)) ≡ true
unfolding every
byte_line b x r p h k = every_app in_line x (b ∷ r) h (rw p k)

escaped_line : (before : Bool) (c : Bytes) → every in_line c ≡ true → every in_line (pipes_escaped before c) ≡ true
unfolding every pipes_escaped
escaped_line before [] h = refl
escaped_line before (b ∷ c) h = go (eqb b 124 && not before) (escaped_line (eqb b 92) c (and_r (in_line b) _ h))
  where
    go : (t : Bool) → every in_line (pipes_escaped (eqb b 92) c) ≡ true → every in_line (cond t (ascii "\\") [] ++ (b ∷ pipes_escaped (eqb b 92) c)) ≡ true
    go true ih = byte_line b (ascii "\\") (pipes_escaped (eqb b 92) c) (and_l (in_line b) _ h) (unfold every in_line isin in refl) ih
    go false ih = byte_line b [] (pipes_escaped (eqb b 92) c) (and_l (in_line b) _ h) refl ih

tail_line : (cs : List Bytes) → clean cs ≡ true → every in_line (row_tail (escaped_cells cs)) ≡ true
unfolding every row_tail escaped_cells clean in_line isin
tail_line [] h = refl
tail_line (c ∷ cs) h =
    every_app in_line (pipes_escaped false c) (32 ∷ 124 ∷ row_tail (escaped_cells cs)) (escaped_line false c (and_l (every in_line c) _ h)) (tail_line cs (and_r (every in_line c) _ h))

row_clean : (cs : List Bytes) → clean cs ≡ true → every in_line (row_line (escaped_cells cs)) ≡ true
unfolding row_line every in_line isin
row_clean cs h = tail_line cs h

unfoldable pub clean_rows : List (List Bytes) → Bool
clean_rows [] = true
clean_rows (cs ∷ css) = clean cs && clean_rows css

rows_clean : (css : List (List Bytes)) → clean_rows css ≡ true → clean (row_lines (escaped_rows css)) ≡ true
unfolding clean_rows clean row_lines escaped_rows
rows_clean [] h = refl
rows_clean (cs ∷ css) h = rw (row_clean cs (and_l (clean cs) _ h)) (rows_clean css (and_r (clean cs) _ h))

rows_last : (css : List (List Bytes)) → last_some (row_lines (escaped_rows css)) ≡ true
unfolding last_some row_lines escaped_rows row_line null
rows_last [] = refl
rows_last (cs ∷ []) = refl
rows_last (cs ∷ ds ∷ css) = rows_last (ds ∷ css)

dashes_line : (hs : List Bytes) → every in_line (row_line (map dashes hs)) ≡ true
unfolding dashes
dashes_line hs = unfold hyphens in row_line_lem (hyphens_rowed hs)

lines_clean : (hs : List Bytes) (css : List (List Bytes)) → clean hs ≡ true → clean_rows css ≡ true → clean (table_lines hs css) ≡ true
unfolding table_lines clean
lines_clean hs css h k = rw (row_clean hs h, dashes_line (escaped_cells hs)) (rows_clean css k)

lines_last : (hs : List Bytes) (css : List (List Bytes)) → last_some (table_lines hs css) ≡ true
unfolding table_lines last_some null
lines_last hs [] = unfold row_lines escaped_rows null last_some row_line in refl
lines_last hs (cs ∷ css) = unfold row_lines escaped_rows null in rows_last (cs ∷ css)

-- ---- the table

-- `text` is t with a table behind it that has the headings hs and the rows css
pub record ReadTable (text t : Bytes) (hs : List Bytes) (css : List (List Bytes)) : Type 0 where
  pub written : text ≡ t ++ (ascii "\n" ++ (join (ascii "\n") (table_lines hs css) ++ ascii "\n\n"))
  pub parted : clean hs ≡ true → clean_rows css ≡ true → reading.lines (safe (join (ascii "\n") (table_lines hs css))) ≡ table_lines hs css
  pub read : (more : List Bytes) → table_in (table_lines hs css ++ ([] ∷ more)) ≡ some (record { headings = read_cells hs; rows = read_rows (length hs) css })

from_some : (self : MDSerializer) (opts : FormatOpts) (rows : List (List Cell)) → null (from_cells rows) ≡ false → null (raw_headings self opts (from_cells rows)) ≡ false
unfolding from_cells null
from_some self opts [] h = absurd (true≢false h)
from_some self opts ([] ∷ rows) h = from_some self opts rows h
from_some self opts ((c ∷ row) ∷ rows) h = headings_some self opts c row rows

some_count : (hs : List Bytes) → null hs ≡ false → length (escaped_cells hs) ≡ suc (length hs - 1)
unfolding null
some_count [] h = absurd (true≢false h)
some_count (c ∷ hs) h = length_escaped (c ∷ hs) ∙ omega arith

table_text : (self : MDSerializer) (opts : FormatOpts) (rows : List (List Cell)) (t : Bytes) → null (raw_headings self opts rows) ≡ false
    → (table_of (row_texts self opts (table_header_row rows)) (table_texts self opts (data_rows rows)) t).text
    ≡ t ++ (ascii "\n" ++ (join (ascii "\n") (table_lines (raw_headings self opts rows) (raw_rows self opts (data_rows rows))) ++ ascii "\n\n"))
unfolding table_of nested_all and_then beside push table_lines dashes hyphens
table_text self opts rows t h =
    let hs : List Bytes = raw_headings self opts rows in
    let ls : List Bytes = row_lines (escaped_rows (raw_rows self opts (data_rows rows))) in
    rw (headings_raw self opts rows, lines_raw self opts (data_rows rows))
    (under_text (length hs - 1) (escaped_cells hs) ls t (some_count hs h))

read_some : (hs : List Bytes) (css : List (List Bytes)) (more : List Bytes) → null hs ≡ false
    → table_in (table_lines hs css ++ ([] ∷ more)) ≡ some (record { headings = read_cells hs; rows = read_rows (length hs) css })
unfolding null
read_some [] css more h = absurd (true≢false h)
read_some (c ∷ hs) css more h = table_read c hs css more

writable_some : (kids : Forest) (rows : List (List Cell)) → is_table_node_writable kids rows ≡ true → null rows ≡ false
unfolding is_table_node_writable
writable_some kids rows w = not-true (null rows) (and_l (not (null rows)) _ w)

-- a table that the writer writes as a table, whatever its cells hold
pub table_recovered : (self : MDSerializer) (anc : Ancestors) (opts : FormatOpts) (name : Bytes) (attrs : List Attr) (kids : Forest) (t : Bytes)
    → is_table_node_writable kids (from_cells (rows_of (attrs ∷ anc) kids)) ≡ true
    → ReadTable (write_table self anc opts name attrs kids t).text t (raw_headings self opts (from_cells (rows_of (attrs ∷ anc) kids))) (raw_rows self opts (data_rows (from_cells (rows_of (attrs ∷ anc) kids))))
unfolding write_table
table_recovered self anc opts name attrs kids t w =
    let rows : List (List Cell) = from_cells (rows_of (attrs ∷ anc) kids) in
    let hs : List Bytes = raw_headings self opts rows in
    let css : List (List Bytes) = raw_rows self opts (data_rows rows) in
    let n : null rows ≡ false = writable_some kids rows w in
    let m : null hs ≡ false = from_some self opts (rows_of (attrs ∷ anc) kids) n in
    record {
      written = rw w (table_text self opts rows t m);
      parted = λ p q.
          rw (safe_join (table_lines hs css) (lines_clean hs css p q)) (lines_join (table_lines hs css) (lines_clean hs css p q) (lines_last hs css));
      read = λ more. read_some hs css more m;
    }

-- a cell that holds a line end breaks its row
pub row_broken : reading.lines (line (ascii "\n" ∷ [])) ≡ ascii "| " ∷ ascii " |" ∷ []
unfolding line join join_rest reading.lines reading.cut_lines reading.ends_line reading.line_byte reading.without_last reading.head_is null
row_broken = refl
