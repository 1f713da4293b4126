-- Written tables, whatever their cells hold, are tables with those cells.
use Rattle.std.specs.Prelude.{ℕ, suc, ◌≡◌, Bool, true, false, cond, List, [], ◌∷◌, ◌++◌, map}
use Rattle.std.proofs.Math.Path.{refl, ap}
use Rattle.std.proofs.Common.{sym, ap₂, ◌∙◌, true≢false, eq-eqb}
use Rattle.std.proofs.Math.Option.{some}
use Rattle.std.proofs.Math.ListN.{length, length-map}
use Rattle.spec.specs.Bytes.{Bytes, isin, every, digit, one, unless, trim_end_matches}
use Rattle.spec.specs.Md.Elements.Table.{pipes_escaped, dashes}
use Rattle.spec.specs.Pieces.Lines.{is_text_start}
use Rattle.spec.specs.Pieces.Tables.{cell_content, cell_contents, breaks_table, table_rows, table_in}
use Rattle.spec.specs.Reading.Lines.{space_or_tab, blank_line, drop_while}
use Rattle.spec.specs.Reading.Starts.{lead, start_by, start}
use Rattle.spec.specs.Reading.Tables.{cell_blank, row, delimiter_row, fit}
use Rattle.recovery.proofs.Cells.{padded, padded_all, row_cells, length_rowed, hyphens_rowed, delimiter_row_lem}
use Rattle.recovery.proofs.Tables.{row_lines}
use Rattle.recovery.specs.Closed.{row_line, hyphens}
use Rattle.recovery.proofs.Written.Ends.{last_is, first_is, trim_fix}
use Rattle.recovery.proofs.Pieces.Cells.{escaped_cells, cell_texts, row_escaped}

-- ---- the content of a cell: the reader trims blanks at its ends

trim_blank : (c : Bytes) (b : ℕ) → cell_blank b ≡ true → trim_end_matches (one cell_blank) (c ++ (b ∷ [])) ≡ trim_end_matches (one cell_blank) c
unfolding trim_end_matches one unless
trim_blank [] b h = rw h
trim_blank (a ∷ c) b h = rw (trim_blank c b h)

pub content_first : (b : ℕ) (c : Bytes) → cell_blank b ≡ true → cell_content (b ∷ c) ≡ cell_content c
unfolding cell_content drop_while
content_first b c h = rw h

pub content_last : (c : Bytes) (b : ℕ) → cell_blank b ≡ true → cell_content (c ++ (b ∷ [])) ≡ cell_content c
unfolding cell_content drop_while
content_last [] b h = rw h
content_last (a ∷ c) b h = go (cell_blank a) (content_last c b h)
  where
    go : (t : Bool) → trim_end_matches (one cell_blank) (drop_while cell_blank (c ++ (b ∷ []))) ≡ trim_end_matches (one cell_blank) (drop_while cell_blank c)
        → trim_end_matches (one cell_blank) (cond t (drop_while cell_blank (c ++ (b ∷ []))) (a ∷ (c ++ (b ∷ []))))
        ≡ trim_end_matches (one cell_blank) (cond t (drop_while cell_blank c) (a ∷ c))
    go true ih = ih
    go false ih = trim_blank (a ∷ c) b h

-- and nothing of a cell that has none there
pub content_kept : (c : Bytes) → first_is cell_blank c ≡ false → last_is cell_blank c ≡ false → cell_content c ≡ c
unfolding cell_content drop_while first_is
content_kept [] h k = absurd (true≢false h)
content_kept (b ∷ c) h k = rw h (trim_fix cell_blank (b ∷ c) k)

content_padded : (c : Bytes) → cell_content (padded c) ≡ cell_content c
unfolding padded cell_blank isin
content_padded c = content_first 32 (c ++ (32 ∷ [])) refl ∙ content_last c 32 refl

-- ---- rows

contents_padded : (cs : List Bytes) → map cell_content (padded_all cs) ≡ map cell_content cs
unfolding padded_all
contents_padded [] = refl
contents_padded (c ∷ cs) = ap₂ (λ (x : Bytes) (xs : List Bytes). x ∷ xs) (content_padded c) (contents_padded cs)

-- what the reader finds in cells that were written as these texts
unfoldable pub read_cells : List Bytes → List Bytes
read_cells cs = map cell_content (cell_texts cs)

contents_row : (cs : List Bytes) → cell_contents (row_line (escaped_cells cs)) ≡ read_cells cs
unfolding cell_contents read_cells
contents_row cs = ap (map cell_content) (row_escaped cs) ∙ contents_padded (cell_texts cs)

length_padded : (cs : List Bytes) → length (padded_all cs) ≡ length cs
unfolding padded_all
length_padded [] = refl
length_padded (c ∷ cs) = ap suc (length_padded cs)

length_texts : (cs : List Bytes) → length (cell_texts cs) ≡ length cs
unfolding cell_texts
length_texts [] = refl
length_texts (c ∷ cs) = ap suc (length_texts cs)

pub length_escaped : (cs : List Bytes) → length (escaped_cells cs) ≡ length cs
unfolding escaped_cells
length_escaped [] = refl
length_escaped (c ∷ cs) = ap suc (length_escaped cs)

-- as many as were joined
pub row_count : (cs : List Bytes) → length (row (row_line (escaped_cells cs))) ≡ length cs
row_count cs = ap length (row_escaped cs) ∙ (length_padded (cell_texts cs) ∙ length_texts cs)

-- the delimiter row has as many cells as there are headings, whatever these hold
pub delimiter_count : (hs : List Bytes) → length (row (row_line (map dashes hs))) ≡ length hs
unfolding dashes
delimiter_count hs =
    unfold hyphens in ap length (row_cells (hyphens_rowed hs)) ∙ (length_rowed (hyphens_rowed hs) ∙ length-map hs hyphens)

pub delimiter_is : (h : Bytes) (hs : List Bytes) → delimiter_row (row (row_line (map dashes (h ∷ hs)))) ≡ true
unfolding dashes
delimiter_is h hs = unfold hyphens in delimiter_row_lem h hs

-- ---- the table

row_goes_on : (es : List Bytes) → breaks_table (row_line es) ≡ false
unfolding breaks_table row_line blank_line every space_or_tab start start_by lead digit is_text_start
row_goes_on es = refl

unfoldable pub escaped_rows : List (List Bytes) → List (List Bytes)
escaped_rows [] = []
escaped_rows (cs ∷ css) = escaped_cells cs ∷ escaped_rows css

-- what the reader finds in rows under n headings
unfoldable pub read_rows : ℕ → List (List Bytes) → List (List Bytes)
read_rows n [] = []
read_rows n (cs ∷ css) = fit n (read_cells cs) ∷ read_rows n css

rows_read : (n : ℕ) (css : List (List Bytes)) (more : List Bytes) → table_rows n (row_lines (escaped_rows css) ++ ([] ∷ more)) ≡ read_rows n css
unfolding table_rows row_lines escaped_rows read_rows
rows_read n [] more = unfold breaks_table blank_line every in refl
rows_read n (cs ∷ css) more =
    rw (row_goes_on (escaped_cells cs), contents_row cs) (ap (λ (r : List (List Bytes)). fit n (read_cells cs) ∷ r) (rows_read n css more))

-- the lines of a table with these cells
unfoldable pub table_lines : List Bytes → List (List Bytes) → List Bytes
table_lines hs rows = row_line (escaped_cells hs) ∷ row_line (map dashes (escaped_cells hs)) ∷ row_lines (escaped_rows rows)

delimiter_escaped : (h : Bytes) (hs : List Bytes) → delimiter_row (row (row_line (map dashes (escaped_cells (h ∷ hs))))) ≡ true
unfolding escaped_cells
delimiter_escaped h hs = delimiter_is (pipes_escaped false h) (escaped_cells hs)

-- before an empty line they are a table with those headings and rows
pub table_read : (h : Bytes) (hs : List Bytes) (rows : List (List Bytes)) (more : List Bytes)
    → table_in (table_lines (h ∷ hs) rows ++ ([] ∷ more)) ≡ some (record { headings = read_cells (h ∷ hs); rows = read_rows (length (h ∷ hs)) rows })
unfolding table_in table_lines
table_read h hs rows more =
    let ds : List Bytes = map dashes (escaped_cells (h ∷ hs)) in
    let same : length (row (row_line (escaped_cells (h ∷ hs)))) ≡ length (row (row_line ds)) =
    row_count (h ∷ hs) ∙ sym (delimiter_count (escaped_cells (h ∷ hs)) ∙ length_escaped (h ∷ hs)) in
    rw (eq-eqb (length (row (row_line (escaped_cells (h ∷ hs))))) (length (row (row_line ds))) same, delimiter_escaped h hs)
    (rw (contents_row (h ∷ hs), row_count (h ∷ hs), rows_read (length (h ∷ hs)) rows more))
