-- A plain table's lines read as the table of the sheet's list.
use Rattle.std.specs.Prelude.{ℕ, zero, suc, ◌≤◌, ◌≡◌, Bool, true, false, cond, ◌&&◌, ◌||◌, List, [], ◌∷◌, ◌++◌, map, eqb, leb, length, replicate}
use Rattle.std.proofs.Common.{arith, sym, ap, ap₂, ◌∙◌, true≢false, eqb-true, leb-true}
use Rattle.std.proofs.Math.Path.{refl}
use Rattle.std.proofs.lemmas.Bool.{false≢true}
use Rattle.std.proofs.Math.Option.{none, some}
use Rattle.std.proofs.lemmas.List.{length-replicate}
use Rattle.spec.specs.Bytes.{Bytes, null, isin, white, parts, cut_at, split, filled, words}
use Rattle.spec.specs.Names as tag
use Rattle.spec.specs.Names.{tag_of}
use Rattle.spec.specs.Tree.{Attr, Forest, nothing, text, comment, element}
use Rattle.spec.specs.Entries.{Piece, word, Entry, table}
use Rattle.spec.specs.Plain as plain
use Rattle.spec.specs.Plain.{no_node, plain_text, one_text, is_cell, is_row_group, count_nodes, all_have, equal_rows, table_parts, plain_table}
use Rattle.spec.specs.SheetList as list
use Rattle.spec.specs.SheetList.{first_text, words_of, cells_of, all_th}
use Rattle.spec.specs.Reading.Inline.{inline}
use Rattle.spec.specs.Reading.Held as held
use Rattle.spec.specs.Reading.Held.{state, no_leaf, blank_row, headings, cell_pieces}
use Rattle.spec.specs.Reading.Step.{kept}
use Rattle.spec.specs.Reading.{read_lines}
use Rattle.spec.proofs.Tests.{and_l, and_r, or_elim}
use Rattle.recovery.proofs.Words.{plain_words, blanked, text_words, text_some}
use Rattle.recovery.proofs.Escapes.{phrase_Esc}
use Rattle.recovery.proofs.Cells.{Celled, cnil, cbare, InCell, in_cell_lem, padded, padded_Celled, inline_Celled, inline_padded, Rowed, rnil, rcons, padded_all, blank_bare}
use Rattle.recovery.proofs.Tables.{Rows, last_row, more_rows, row_lines, padded_rows, read_table}
use Rattle.recovery.proofs.Steps.{Reached}
use Rattle.recovery.specs.Closed.{phrase, cell_phrases, row_line, data_lines, under_headings, blank_headings, table_by, table_lines}

-- ---- cells

-- nodes that are one text
pub one_text_lem : (q : Bytes → Bool) (kids : Forest) → one_text q kids ≡ true → kids ≡ text (first_text kids) nothing
unfolding one_text no_node first_text
one_text_lem q nothing h = absurd (false≢true h)
one_text_lem q (text s nothing) h = refl
one_text_lem q (text s (text r rest)) h = absurd (false≢true (and_r (q s) _ h))
one_text_lem q (text s (comment r rest)) h = absurd (false≢true (and_r (q s) _ h))
one_text_lem q (text s (element name attrs kids rest)) h = absurd (false≢true (and_r (q s) _ h))
one_text_lem q (comment s rest) h = absurd (false≢true h)
one_text_lem q (element name attrs kids rest) h = absurd (false≢true h)

pub kids_text : (q : Bytes → Bool) (kids : Forest) → one_text q kids ≡ true → q (first_text kids) ≡ true
unfolding one_text first_text
kids_text q nothing h = absurd (false≢true h)
kids_text q (text s rest) h = and_l (q s) _ h
kids_text q (comment s rest) h = absurd (false≢true h)
kids_text q (element name attrs kids rest) h = absurd (false≢true h)

record CellRead (ws : List Bytes) : Type 0 where
  cell : Bytes
  meant : Bytes
  celled : Celled (phrase ws) cell meant
  gives : inline (padded cell) ≡ map word ws

cell_read : (ws : List Bytes) → plain_words ws ≡ true → null ws ≡ false → CellRead ws
unfolding null
cell_read [] h n = absurd (true≢false n)
cell_read (w ∷ ws) h n =
    let c : InCell (phrase (w ∷ ws)) (w ++ blanked ws) = in_cell_lem (phrase_Esc w ws h) in
    record { cell = c.text; meant = w ++ blanked ws; celled = c.celled; gives = inline_padded w ws c.text h c.celled }

-- ---- rows

record RowRead (r : Forest) : Type 0 where
  row : List Bytes
  rowed : Rowed (cell_phrases r) row
  gives : cell_pieces (padded_all row) ≡ cells_of r
  counted : length (cell_phrases r) ≡ count_nodes r

row_cons : (name : Bytes) (attrs : List Attr) (kids rest : Forest) → one_text plain_text kids ≡ true → RowRead rest → RowRead (element name attrs kids rest)
unfolding cell_phrases cell_pieces padded_all cells_of words_of count_nodes
row_cons name attrs kids rest h r =
    let p : plain_text (first_text kids) ≡ true = kids_text plain_text kids h in
    let c : CellRead (words (first_text kids)) = cell_read (words (first_text kids)) (text_words (first_text kids) p) (text_some (first_text kids) p) in
    record {
      row = c.cell ∷ r.row;
      rowed = rcons c.celled r.rowed;
      gives = ap₂ (λ (x : List Piece) (xs : List (List Piece)). x ∷ xs) c.gives r.gives;
      counted = ap suc r.counted;
    }

row_read : (r : Forest) → plain.cells r ≡ true → RowRead r
unfolding plain.cells
row_read nothing h = unfold cell_phrases cell_pieces padded_all cells_of count_nodes in record { row = []; rowed = rnil; gives = refl; counted = refl }
row_read (text s rest) h = absurd (false≢true h)
row_read (comment s rest) h = absurd (false≢true h)
row_read (element name attrs kids rest) h =
    let c : Bool = is_cell (tag_of name) && null attrs in
    row_cons name attrs kids rest (and_r c _ (and_l (c && one_text plain_text kids) _ h)) (row_read rest (and_r (c && one_text plain_text kids) _ h))

-- ---- all rows

unfoldable pub all_cells : List Forest → Bool
all_cells [] = true
all_cells (r ∷ rs) = plain.cells r && all_cells rs

all_app : (a b : List Forest) → all_cells a ≡ true → all_cells b ≡ true → all_cells (a ++ b) ≡ true
unfolding all_cells
all_app [] b p q = q
all_app (r ∷ a) b p q = rw (and_l (plain.cells r) _ p) (all_app a b (and_r (plain.cells r) _ p) q)

one_row : (name : ℕ) (attrs : List Attr) (kids : Forest) (others : List Forest) → plain.row name attrs kids ≡ true
    → all_cells (cond (eqb name tag.tr) (kids ∷ []) others) ≡ true
unfolding plain.row all_cells
one_row name attrs kids others h =
    rw (and_l (eqb name tag.tr) _ (and_l (eqb name tag.tr && null attrs) _ h), and_r (eqb name tag.tr && null attrs) _ h)

group_rows : (f : Forest) → plain.rows f ≡ true → all_cells (plain.rows_of f) ≡ true
unfolding plain.rows plain.rows_of
group_rows nothing h = unfold all_cells in refl
group_rows (text s rest) h = absurd (false≢true h)
group_rows (comment s rest) h = absurd (false≢true h)
group_rows (element name attrs kids rest) h =
    all_app _ _ (one_row (tag_of name) attrs kids (plain.rows_of kids) (and_l (plain.row (tag_of name) attrs kids) _ h))
    (group_rows rest (and_r (plain.row (tag_of name) attrs kids) _ h))

group_tag : (n : ℕ) → is_row_group n ≡ true → eqb n tag.tr ≡ false
unfolding is_row_group isin
group_tag n h =
    or_elim (eqb n 29) (eqb n 30 || false) (λ e. rw (eqb-true n 29 e)) (or_elim (eqb n 30) false (λ e. rw (eqb-true n 30 e)) (λ e. absurd (false≢true e))) h

part_rows : (t : Bool) (n : ℕ) (attrs : List Attr) (kids : Forest) → is_row_group n ≡ t
    → cond t (null attrs && plain.rows kids) (plain.row n attrs kids) ≡ true → all_cells (cond (eqb n tag.tr) (kids ∷ []) (plain.rows_of kids)) ≡ true
part_rows true n attrs kids e h = rw (group_tag n e) (group_rows kids (and_r (null attrs) _ h))
part_rows false n attrs kids e h = one_row n attrs kids (plain.rows_of kids) h

pub table_rows_lem : (f : Forest) → table_parts f ≡ true → all_cells (plain.rows_of f) ≡ true
unfolding table_parts plain.rows_of
table_rows_lem nothing h = unfold all_cells in refl
table_rows_lem (text s rest) h = absurd (false≢true h)
table_rows_lem (comment s rest) h = absurd (false≢true h)
table_rows_lem (element name attrs kids rest) h =
    let c : Bool = cond (is_row_group (tag_of name)) (null attrs && plain.rows kids) (plain.row (tag_of name) attrs kids) in
    all_app _ _ (part_rows (is_row_group (tag_of name)) (tag_of name) attrs kids refl (and_l c _ h)) (table_rows_lem rest (and_r c _ h))

-- the rows of a table, written and read
unfoldable phrases_of : List Forest → List (List Bytes)
phrases_of [] = []
phrases_of (r ∷ rs) = cell_phrases r ∷ phrases_of rs

data_lines_lem : (rs : List Forest) → data_lines rs ≡ row_lines (phrases_of rs)
unfolding data_lines row_lines phrases_of
data_lines_lem [] = refl
data_lines_lem (r ∷ rs) = ap (λ (ls : List Bytes). row_line (cell_phrases r) ∷ ls) (data_lines_lem rs)

record RowsRead (n : ℕ) (rs : List Forest) : Type 0 where
  rows : List (List Bytes)
  rowed : Rows n (phrases_of rs) rows
  gives : map cell_pieces (padded_rows rows) ≡ map cells_of rs

more_rows_lem : (n : ℕ) (es cs : List Bytes) (ess css : List (List Bytes)) → 1 ≤ n → Rowed es cs → n ≡ length es → Rows n ess css → Rows n (es ∷ ess) (cs ∷ css)
more_rows_lem n [] cs ess css l r e m = absurd (omega arith)
more_rows_lem n (e ∷ es) cs ess css l r q m = more_rows r q m

rows_cons : (n : ℕ) (r : Forest) (rs : List Forest) → 1 ≤ n → n ≡ count_nodes r → RowRead r → RowsRead n rs → RowsRead n (r ∷ rs)
unfolding phrases_of padded_rows
rows_cons n r rs l e one more =
    record {
      rows = one.row ∷ more.rows;
      rowed = more_rows_lem n (cell_phrases r) one.row (phrases_of rs) more.rows l one.rowed (e ∙ sym one.counted) more.rowed;
      gives = ap₂ (λ (x : List (List Piece)) (xs : List (List (List Piece))). x ∷ xs) one.gives more.gives;
    }

rows_read : (n : ℕ) (rs : List Forest) → 1 ≤ n → all_cells rs ≡ true → all_have n rs ≡ true → RowsRead n rs
unfolding all_cells all_have
rows_read n [] l h k = unfold phrases_of padded_rows in record { rows = []; rowed = last_row; gives = refl }
rows_read n (r ∷ rs) l h k =
    rows_cons n r rs l (sym (eqb-true (count_nodes r) n (and_l (eqb (count_nodes r) n) _ k))) (row_read r (and_l (plain.cells r) _ h))
    (rows_read n rs l (and_r (plain.cells r) _ h) (and_r (eqb (count_nodes r) n) _ k))

-- ---- the table

-- lines under headings, of which the first is h
table_by_lem : (o : List Entry) (op : List ℕ) (n : ℕ) (hs cs : List Bytes) (rs : List Forest) → kept 0 op ≡ [] → 1 ≤ n → length hs ≡ n → Rowed hs cs
    → (r : RowsRead n rs)
    → Reached (o ++ (held.table_entry (padded_all cs) (padded_rows r.rows) ∷ [])) (read_lines (state o op no_leaf) (under_headings hs rs))
unfolding under_headings
table_by_lem o op n [] cs rs k l e h r = absurd (omega arith)
table_by_lem o op n (x ∷ hs) cs rs k l e h r =
    rw (data_lines_lem rs) (read_table o op x hs cs (phrases_of rs) r.rows k h (rw (sym e) at r.rowed))

-- blank headings
blank_rowed : (n : ℕ) → Rowed (replicate n (32 ∷ [])) (replicate n (32 ∷ []))
blank_rowed zero = rnil
blank_rowed (suc n) = rcons (cbare blank_bare cnil) (blank_rowed n)

blank_cell_lem : inline (padded (32 ∷ [])) ≡ []
unfolding padded words split parts cut_at white isin filled null
blank_cell_lem = inline_Celled (padded_Celled (cbare blank_bare cnil))

blank_headings_lem : (n : ℕ) → blank_row (cell_pieces (padded_all (replicate n (32 ∷ [])))) ≡ true
unfolding blank_row cell_pieces padded_all null
blank_headings_lem zero = refl
blank_headings_lem (suc n) = rw blank_cell_lem (blank_headings_lem n)

-- headings with words
words_some : (ws : List Bytes) → null ws ≡ false → null (map word ws) ≡ false
unfolding null
words_some [] h = absurd (true≢false h)
words_some (w ∷ ws) h = refl

word_headings : (r : Forest) → plain.cells r ≡ true → 1 ≤ count_nodes r → blank_row (cells_of r) ≡ false
unfolding plain.cells count_nodes cells_of blank_row words_of
word_headings nothing h l = absurd (omega arith)
word_headings (text s rest) h l = absurd (false≢true h)
word_headings (comment s rest) h l = absurd (false≢true h)
word_headings (element name attrs kids rest) h l =
    let c : Bool = is_cell (tag_of name) && null attrs in
    rw (words_some (words (first_text kids)) (text_some (first_text kids) (kids_text plain_text kids (and_r c _ (and_l (c && one_text plain_text kids) _ h)))))

headed_entry : (r : Forest) (rs : List Forest) (one : RowRead r) (more : RowsRead (count_nodes r) rs) → blank_row (cells_of r) ≡ false
    → held.table_entry (padded_all one.row) (padded_rows more.rows) ≡ table (some (cells_of r)) (map cells_of rs)
unfolding held.table_entry headings
headed_entry r rs one more b = rw (one.gives, more.gives, b)

bare_entry : (n : ℕ) (rs : List Forest) (more : RowsRead n rs)
    → held.table_entry (padded_all (replicate n (32 ∷ []))) (padded_rows more.rows) ≡ table none (map cells_of rs)
unfolding held.table_entry headings
bare_entry n rs more = rw (blank_headings_lem n, more.gives)

read_by : (t : Bool) (o : List Entry) (op : List ℕ) (r : Forest) (rs : List Forest) → kept 0 op ≡ [] → plain.cells r ≡ true → all_cells rs ≡ true
    → 1 ≤ count_nodes r → all_have (count_nodes r) rs ≡ true
    → Reached (o ++ (cond t (table (some (cells_of r)) (map cells_of rs)) (table none (map cells_of (r ∷ rs))) ∷ []))
    (read_lines (state o op no_leaf) (table_by t r rs))
unfolding table_by blank_headings
read_by true o op r rs k h hs l e =
    let one : RowRead r = row_read r h in
    let more : RowsRead (count_nodes r) rs = rows_read (count_nodes r) rs l hs e in
    rw (headed_entry r rs one more (word_headings r h l)) at (table_by_lem o op (count_nodes r) (cell_phrases r) one.row rs k l one.counted one.rowed more)
read_by false o op r rs k h hs l e =
    let all : RowsRead (count_nodes r) (r ∷ rs) = rows_cons (count_nodes r) r rs l refl (row_read r h) (rows_read (count_nodes r) rs l hs e) in
    rw (bare_entry (count_nodes r) (r ∷ rs) all)
    at (table_by_lem o op (count_nodes r) (replicate (count_nodes r) (32 ∷ [])) (replicate (count_nodes r) (32 ∷ [])) (r ∷ rs) k l (length-replicate (count_nodes r) (32 ∷ []))
    (blank_rowed (count_nodes r)) all)

read_rows_lem : (o : List Entry) (op : List ℕ) (rs : List Forest) → kept 0 op ≡ [] → all_cells rs ≡ true → equal_rows rs ≡ true
    → Reached (o ++ (list.table_entry rs ∷ [])) (read_lines (state o op no_leaf) (table_lines rs))
unfolding all_cells equal_rows list.table_entry table_lines
read_rows_lem o op [] k h e = absurd (false≢true e)
read_rows_lem o op (r ∷ rs) k h e =
    read_by (all_th r) o op r rs k (and_l (plain.cells r) _ h) (and_r (plain.cells r) _ h) (leb-true 1 (count_nodes r) (and_l (leb 1 (count_nodes r)) _ e))
    (and_r (leb 1 (count_nodes r)) _ e)

pub read_table_block : (o : List Entry) (op : List ℕ) (kids : Forest) → kept 0 op ≡ [] → plain_table kids ≡ true
    → Reached (o ++ (list.table_entry (plain.rows_of kids) ∷ [])) (read_lines (state o op no_leaf) (table_lines (plain.rows_of kids)))
unfolding plain_table
read_table_block o op kids k h = read_rows_lem o op (plain.rows_of kids) k (table_rows_lem kids (and_l (table_parts kids) _ h)) (and_r (table_parts kids) _ h)
