-- The writer's tables are the closed form's.
use Rattle.std.specs.Prelude.{ℕ, suc, ◌-◌, ◌≤◌, ◌≡◌, Bool, true, false, cond, eqb, leb, length, replicate}
use native.Mathlib.Omega.{arith}
use Rattle.std.proofs.Math.Path.{refl}
use Rattle.std.proofs.Common.{sym, ap, ap₂, ◌∙◌, eqb-true, eq-eqb, leb-true}
use Rattle.std.proofs.lemmas.Bool.{false≢true}
use mathlib.Core.List.{List, [], ◌∷◌, ◌++◌, append-nil, append_assoc, tail-eq_of_cons-eq, map}
use Rattle.std.proofs.lemmas.List.{length-map, length-replicate}
use Rattle.spec.specs.Bytes.{Bytes, ascii, null, isin, white, join_rest, join}
use Rattle.spec.specs.Names as tag
use Rattle.spec.specs.Names.{tag_of}
use Rattle.spec.specs.Tree.{Attr, Forest, nothing, text, comment, element}
use Rattle.spec.specs.Out.{push, and_then, beside, nested_all}
use Rattle.spec.specs.Plain as plain
use Rattle.spec.specs.Plain.{count_nodes, all_have, table_parts, plain_table}
use Rattle.spec.specs.SheetList as list
use Rattle.spec.specs.Md.Elements.Link.{has_element}
use Rattle.spec.specs.Md.Elements.Table.{Cell, cells_of, rows_of, from_cells, table_header_row, data_rows, equal_rows, is_table_node_writable, row_texts, table_texts, texts, width_of, filled_up, line, dashes, lines, table_of, write_table}
use Rattle.spec.specs.Md.MDSerializer.{Ancestors, MDSerializer}
use Rattle.spec.specs.Md.Serializer.{serializer}
use Rattle.spec.specs.declared.ctx.FormatOpts.{FormatOpts}
use Rattle.spec.proofs.Tests.{and_l, and_r}
use Rattle.recovery.proofs.Fences.{ended}
use Rattle.recovery.proofs.TableBlocks as blocks
use Rattle.recovery.proofs.TableBlocks.{all_cells}
use Rattle.recovery.proofs.Written.Ends.{last_is, first_is, last_keep}
use Rattle.recovery.proofs.Written.Lines.{ended_join}
use Rattle.recovery.proofs.Written.CellTexts.{cell_text_lem}
use Rattle.recovery.proofs.Written.Rows.{Rows, no_rows, some_rows, CellAnd, cell_and, cell_name, cells_count, cells_th, table_rows_lem, no_tables, all_equal}
use Rattle.recovery.specs.Closed.{cell_phrases, row_tail, row_line, hyphens, data_lines, under_headings, blank_headings, table_by, table_lines}

-- ---- the texts of a row

row_texts_lem : (skips : List Bytes) (n : ℕ) (opts : FormatOpts) (anc : Ancestors) (f : Forest) → plain.cells f ≡ true
    → texts (row_texts (serializer skips (suc n)) opts (cells_of anc f)) ≡ cell_phrases f
unfolding cells_of row_texts texts cell_phrases
row_texts_lem skips n opts anc nothing h = refl
row_texts_lem skips n opts anc (text s rest) h = unfold plain.cells in absurd (false≢true h)
row_texts_lem skips n opts anc (comment s rest) h = unfold plain.cells in absurd (false≢true h)
row_texts_lem skips n opts anc (element name attrs kids rest) h =
    let c : CellAnd name kids rest = cell_and name attrs kids rest h in
    rw (cell_name (tag_of name) c.cell)
    (ap₂ (λ (x : Bytes) (xs : List Bytes). x ∷ xs) (cell_text_lem skips n anc (eqb (tag_of name) tag.th) opts name attrs kids c.holds)
    (row_texts_lem skips n opts anc rest c.others))

phrases_count : (f : Forest) → plain.cells f ≡ true → length (cell_phrases f) ≡ count_nodes f
unfolding cell_phrases count_nodes
phrases_count nothing h = refl
phrases_count (text s rest) h = unfold plain.cells in absurd (false≢true h)
phrases_count (comment s rest) h = unfold plain.cells in absurd (false≢true h)
phrases_count (element name attrs kids rest) h = ap suc (phrases_count rest (cell_and name attrs kids rest h).others)

-- ---- a row

-- the cells behind the first
line_rest : (cs : List Bytes) → join_rest (ascii " | ") cs ++ ascii " |\n" ≡ 32 ∷ 124 ∷ (row_tail cs ++ ascii "\n")
unfolding join_rest row_tail
line_rest [] = refl
line_rest (c ∷ cs) =
    ap (λ (r : Bytes). 32 ∷ 124 ∷ 32 ∷ r)
    (append_assoc c (join_rest (ascii " | ") cs) (ascii " |\n")
    ∙ (ap (λ (r : Bytes). c ++ r) (line_rest cs) ∙ sym (append_assoc c (32 ∷ 124 ∷ row_tail cs) (ascii "\n"))))

pub line_row : (n : ℕ) (cs : List Bytes) → length cs ≡ suc n → line cs ≡ row_line cs ++ ascii "\n"
unfolding line row_line row_tail join join_rest
line_row n [] h = absurd (omega arith)
line_row n (c ∷ cs) h = tail-eq_of_cons-eq (line_rest (c ∷ cs))

-- ---- the data rows

row_some : {A : Type 0} (n : ℕ) (row : List A) → length row ≡ suc n → null row ≡ false
unfolding null
row_some n [] h = absurd (omega arith)
row_some n (c ∷ row) h = refl

data_lines_lem : {cs : List (List Cell)} {fs : List Forest} (skips : List Bytes) (m : ℕ) (opts : FormatOpts) (n : ℕ) → Rows cs fs
    → all_cells fs ≡ true → all_have (suc n) fs ≡ true
    → lines (table_texts (serializer skips (suc m)) opts cs) ≡ ended (data_lines fs)
unfolding all_cells all_have table_texts lines data_lines ended
data_lines_lem skips m opts n no_rows c h = refl
data_lines_lem skips m opts n (some_rows {f} {cs} {fs} anc k) c h =
    let p : plain.cells f ≡ true = and_l (plain.cells f) _ c in
    let e : count_nodes f ≡ suc n = eqb-true (count_nodes f) (suc n) (and_l (eqb (count_nodes f) (suc n)) _ h) in
    rw (
      row_some n (cells_of anc f) (cells_count anc f p ∙ e),
      row_texts_lem skips m opts anc f p,
      line_row n (cell_phrases f) (phrases_count f p ∙ e),
      data_lines_lem skips m opts n k (and_r (plain.cells f) _ c) (and_r (eqb (count_nodes f) (suc n)) _ h),
    )
    (append_assoc (row_line (cell_phrases f)) (ascii "\n") (ended (data_lines fs)))

-- ---- the headings

texts_count : (self : MDSerializer) (opts : FormatOpts) (row : List Cell) → length (row_texts self opts row) ≡ length row
unfolding row_texts
texts_count self opts [] = refl
texts_count self opts (c ∷ row) = ap suc (texts_count self opts row)

-- the first of some data rows says how many headings there are
data_width : (self : MDSerializer) (opts : FormatOpts) (n : ℕ) (anc : Ancestors) (f : Forest) (cs : List (List Cell))
    → plain.cells f ≡ true → count_nodes f ≡ suc n
    → width_of (table_texts self opts (cells_of anc f ∷ cs)) ≡ suc n
unfolding table_texts width_of
data_width self opts n anc f cs p e =
    rw (row_some n (cells_of anc f) (cells_count anc f p ∙ e)) (texts_count self opts (cells_of anc f) ∙ (cells_count anc f p ∙ e))

rows_width : {cs : List (List Cell)} {fs : List Forest} (self : MDSerializer) (opts : FormatOpts) (n : ℕ) → Rows cs fs
    → all_cells fs ≡ true → all_have (suc n) fs ≡ true
    → width_of (table_texts self opts cs) ≤ suc n
unfolding all_cells all_have
rows_width self opts n no_rows c h = unfold table_texts width_of in omega arith
rows_width self opts n (some_rows {f} {cs} anc k) c h =
    rw (data_width self opts n anc f cs (and_l (plain.cells f) _ c) (eqb-true (count_nodes f) (suc n) (and_l (eqb (count_nodes f) (suc n)) _ h))) (omega arith)

-- headings enough are not filled up
filled_none : (w n : ℕ) (hs : List Bytes) → w ≤ n → length hs ≡ n → filled_up w hs ≡ hs
unfolding filled_up
filled_none w n hs l e =
    let z : w - length hs ≡ 0 = omega arith in
    rw z (append-nil hs)

filled_all : (w : ℕ) → filled_up w [] ≡ replicate w (ascii " ")
unfolding filled_up
filled_all w =
    let z : w - 0 ≡ w = omega arith in
    rw z

-- ---- the table

dashes_hyphens : (hs : List Bytes) → map dashes hs ≡ map hyphens hs
unfolding dashes hyphens
dashes_hyphens hs = refl

two_lines : (a b : Bytes) (ls : List Bytes) → (a ++ ascii "\n") ++ ((b ++ ascii "\n") ++ ended ls) ≡ join (ascii "\n") (a ∷ b ∷ ls) ++ ascii "\n"
unfolding ended
two_lines a b ls = rw (append_assoc a (ascii "\n") ((b ++ ascii "\n") ++ ended ls), append_assoc b (ascii "\n") (ended ls)) (ended_join (a ∷ b ∷ ls) (unfold null in refl))

-- the text of a table with these headings
pub under_text : (n : ℕ) (hs : List Bytes) (ls : List Bytes) (t : Bytes) → length hs ≡ suc n
    → (t ++ (ascii "\n" ++ (line hs ++ (line (map dashes hs) ++ ended ls)))) ++ ascii "\n"
    ≡ t ++ (ascii "\n" ++ (join (ascii "\n") (row_line hs ∷ row_line (map hyphens hs) ∷ ls) ++ ascii "\n\n"))
under_text n hs ls t e =
    let j : Bytes = join (ascii "\n") (row_line hs ∷ row_line (map hyphens hs) ∷ ls) in
    rw (
      dashes_hyphens hs,
      line_row n hs e,
      line_row n (map hyphens hs) (length-map hs hyphens ∙ e),
      two_lines (row_line hs) (row_line (map hyphens hs)) ls,
      append_assoc t (10 ∷ (j ++ ascii "\n")) (ascii "\n"),
      append_assoc j (ascii "\n") (ascii "\n"),
    )

no_headings : (self : MDSerializer) (opts : FormatOpts) (w : ℕ) → filled_up w (texts (row_texts self opts [])) ≡ replicate w (ascii " ")
unfolding texts row_texts
no_headings self opts w = filled_all w

-- the heading row, or none
table_by_lem : {cs : List (List Cell)} {fs : List Forest} (u : Bool) (skips : List Bytes) (m : ℕ) (opts : FormatOpts) (n : ℕ) (anc : Ancestors) (f : Forest) (t : Bytes)
    → Rows cs fs → plain.cells f ≡ true → all_cells fs ≡ true → count_nodes f ≡ suc n → all_have (suc n) fs ≡ true
    → (table_of (row_texts (serializer skips (suc m)) opts (cond u (cells_of anc f) [])) (table_texts (serializer skips (suc m)) opts (cond u cs (cells_of anc f ∷ cs))) t).text
    ≡ t ++ (ascii "\n" ++ (join (ascii "\n") (table_by u f fs) ++ ascii "\n\n"))
unfolding table_of nested_all and_then beside push table_by under_headings blank_headings
table_by_lem {cs} true skips m opts n anc f t k p c e h =
    rw (
      row_texts_lem skips m opts anc f p,
      filled_none (width_of (table_texts (serializer skips (suc m)) opts cs)) (suc n) (cell_phrases f) (rows_width (serializer skips (suc m)) opts n k c h) (phrases_count f p ∙ e),
      data_lines_lem skips m opts n k c h,
    )
    (under_text n (cell_phrases f) _ t (phrases_count f p ∙ e))
table_by_lem {cs} {fs} false skips m opts n anc f t k p c e h =
    rw (
      data_width (serializer skips (suc m)) opts n anc f cs p e,
      no_headings (serializer skips (suc m)) opts (suc n),
      data_lines_lem skips m opts n (some_rows {f = f} anc k) (unfold all_cells in rw p c) (unfold all_have in rw (eq-eqb (count_nodes f) (suc n) e) h),
      e,
    )
    (under_text n (replicate (suc n) (ascii " ")) _ t (length-replicate (suc n) (ascii " ")))

-- ---- `write_table`

from_some : (n : ℕ) (row : List Cell) (rows : List (List Cell)) → length row ≡ suc n → from_cells (row ∷ rows) ≡ row ∷ rows
unfolding from_cells
from_some n [] rows h = absurd (omega arith)
from_some n (c ∷ row) rows h = refl

data_equal : {cs : List (List Cell)} {fs : List Forest} (u : Bool) (n : ℕ) (anc : Ancestors) (f : Forest)
    → Rows cs fs → plain.cells f ≡ true → all_cells fs ≡ true → count_nodes f ≡ suc n → all_have (suc n) fs ≡ true
    → equal_rows 0 (cond u cs (cells_of anc f ∷ cs)) ≡ true
data_equal true n anc f k p c e h = all_equal n k c h
data_equal false n anc f k p c e h =
    all_equal n (some_rows {f = f} anc k) (unfold all_cells in rw p c) (unfold all_have in rw (eq-eqb (count_nodes f) (suc n) e) h)

table_written : {cs : List (List Cell)} {fs : List Forest} (skips : List Bytes) (m : ℕ) (anc : Ancestors) (opts : FormatOpts) (name : Bytes) (attrs : List Attr) (kids : Forest) (t : Bytes)
    → rows_of (attrs ∷ anc) kids ≡ cs → has_element tag.table kids ≡ false → Rows cs fs → all_cells fs ≡ true → plain.equal_rows fs ≡ true
    → (write_table (serializer skips (suc m)) anc opts name attrs kids t).text
    ≡ t ++ (ascii "\n" ++ (join (ascii "\n") (table_lines fs) ++ ascii "\n\n"))
unfolding all_cells plain.equal_rows table_lines write_table is_table_node_writable table_header_row data_rows null
table_written skips m anc opts name attrs kids t q x no_rows c h = absurd (false≢true h)
table_written skips m anc opts name attrs kids t q x (some_rows {f} {cs} {fs} up k) c h =
    let n : ℕ = count_nodes f - 1 in
    let l : 1 ≤ count_nodes f = leb-true 1 (count_nodes f) (and_l (leb 1 (count_nodes f)) _ h) in
    let e : count_nodes f ≡ suc n = omega arith in
    let p : plain.cells f ≡ true = and_l (plain.cells f) _ c in
    let a : all_have (suc n) fs ≡ true = rw e at (and_r (leb 1 (count_nodes f)) _ h) in
    rw (
      q,
      from_some n (cells_of up f) cs (cells_count up f p ∙ e),
      x,
      cells_th up f p,
      data_equal (list.all_th f) n up f k p (and_r (plain.cells f) _ c) e a,
    )
    (table_by_lem (list.all_th f) skips m opts n up f t k p (and_r (plain.cells f) _ c) e a)

-- what `write_table` appends for a plain table
pub table_text : (skips : List Bytes) (n : ℕ) (anc : Ancestors) (opts : FormatOpts) (name : Bytes) (kids : Forest) (t : Bytes)
    → plain_table kids ≡ true
    → (write_table (serializer skips (suc n)) anc opts name [] kids t).text
    ≡ t ++ (ascii "\n" ++ (join (ascii "\n") (table_lines (plain.rows_of kids)) ++ ascii "\n\n"))
unfolding plain_table
table_text skips n anc opts name kids t h =
    let p : table_parts kids ≡ true = and_l (table_parts kids) _ h in
    table_written skips n anc opts name [] kids t refl (no_tables kids p) (table_rows_lem ([] ∷ anc) kids p) (blocks.table_rows_lem kids p) (and_r (table_parts kids) _ h)

-- ---- its ends

row_last : (cs : List Bytes) → last_is white (124 ∷ row_tail cs) ≡ false
unfolding row_tail
row_last [] = unfold last_is null white isin in refl
row_last (c ∷ cs) = last_keep white (124 ∷ 32 ∷ c) (32 ∷ 124 ∷ row_tail cs) (last_keep white (32 ∷ []) (124 ∷ row_tail cs) (row_last cs))

rows_last : (x : Bytes) (fs : List Forest) → last_is white x ≡ false → last_is white (x ++ join_rest (ascii "\n") (data_lines fs)) ≡ false
unfolding data_lines join_rest row_line
rows_last x [] h = rw (append-nil x) h
rows_last x (f ∷ fs) h =
    let r : Bytes = row_line (cell_phrases f) in
    rw (← append_assoc x (10 ∷ r) (join_rest (ascii "\n") (data_lines fs)))
    (rows_last (x ++ (10 ∷ r)) fs (last_keep white x (10 ∷ r) (last_keep white (ascii "\n") r (row_last (cell_phrases f)))))

under_last : (hs : List Bytes) (fs : List Forest) → last_is white (join (ascii "\n") (under_headings hs fs)) ≡ false
unfolding under_headings join join_rest row_line
under_last hs fs =
    let d : Bytes = row_line (map hyphens hs) in
    rw (← append_assoc (row_line hs) (10 ∷ d) (join_rest (ascii "\n") (data_lines fs)))
    (rows_last (row_line hs ++ (10 ∷ d)) fs (last_keep white (row_line hs) (10 ∷ d) (last_keep white (ascii "\n") d (row_last (map hyphens hs)))))

under_first : (hs : List Bytes) (fs : List Forest) → first_is white (join (ascii "\n") (under_headings hs fs)) ≡ false
unfolding under_headings join row_line first_is white isin
under_first hs fs = refl

by_ends : (u : Bool) (f : Forest) (fs : List Forest)
    → (first_is white (join (ascii "\n") (table_by u f fs)) ≡ false) × (last_is white (join (ascii "\n") (table_by u f fs)) ≡ false)
unfolding table_by
by_ends true f fs = (under_first (cell_phrases f) fs, under_last (cell_phrases f) fs)
by_ends false f fs = (under_first (blank_headings f) (f ∷ fs), under_last (blank_headings f) (f ∷ fs))

rows_ends : (fs : List Forest) → plain.equal_rows fs ≡ true
    → (first_is white (join (ascii "\n") (table_lines fs)) ≡ false) × (last_is white (join (ascii "\n") (table_lines fs)) ≡ false)
unfolding plain.equal_rows table_lines
rows_ends [] h = absurd (false≢true h)
rows_ends (f ∷ fs) h = by_ends (list.all_th f) f fs

pub table_first : (kids : Forest) → plain_table kids ≡ true → first_is white (join (ascii "\n") (table_lines (plain.rows_of kids))) ≡ false
unfolding plain_table
table_first kids h = (rows_ends (plain.rows_of kids) (and_r (table_parts kids) _ h)).0

pub table_last : (kids : Forest) → plain_table kids ≡ true → last_is white (join (ascii "\n") (table_lines (plain.rows_of kids))) ≡ false
unfolding plain_table
table_last kids h = (rows_ends (plain.rows_of kids) (and_r (table_parts kids) _ h)).1
