-- The rows of a plain table as the writer takes them: each is one of Plain's rows, by its cells.
use Rattle.std.specs.Prelude.{ℕ, suc, ◌≡◌, refl, Bool, true, false, cond, ◌&&◌, ◌||◌, List, [], ◌∷◌, ◌++◌, eqb, length}
use Rattle.std.proofs.Common.{ap, append_assoc, eqb-true}
use Rattle.std.proofs.Math.Bool.{or-true}
use Rattle.std.proofs.lemmas.Bool.{false≢true}
use Rattle.spec.specs.Bytes.{Bytes, null, isin}
use Rattle.spec.specs.Names as tag
use Rattle.spec.specs.Names.{tag_of}
use Rattle.spec.specs.Tree.{Attr, Forest, nothing, text, comment, element}
use Rattle.spec.specs.Plain as plain
use Rattle.spec.specs.Plain.{plain_text, one_text, is_cell, is_row_group, count_nodes, all_have, table_parts}
use Rattle.spec.specs.SheetList as list
use Rattle.spec.specs.Md.Elements.Link.{has_element}
use Rattle.spec.specs.Md.Elements.Table.{Cell, is_table_cell, cells_of, rows_of, all_th, equal_rows}
use Rattle.spec.specs.Md.MDSerializer.{Ancestors}
use Rattle.spec.proofs.Tests.{and_l, and_r, or_elim, apart}
use Rattle.recovery.proofs.TableBlocks.{all_cells, one_text_lem}

-- ---- rows

-- the writer's rows, each the cells of one of the forests
pub data Rows : List (List Cell) → List Forest → Type 0 where
  no_rows : Rows [] []
  some_rows : {f : Forest} {cs : List (List Cell)} {fs : List Forest} (anc : Ancestors) → Rows cs fs → Rows (cells_of anc f ∷ cs) (f ∷ fs)

rows_app : {a b : List (List Cell)} {fs gs : List Forest} → Rows a fs → Rows b gs → Rows (a ++ b) (fs ++ gs)
rows_app no_rows k = k
rows_app (some_rows anc h) k = some_rows anc (rows_app h k)

-- ---- the cells of a row

pub cell_name : (n : ℕ) → is_cell n ≡ true → is_table_cell n ≡ true
unfolding is_cell isin is_table_cell
cell_name n h =
    or_elim (eqb n 18) (eqb n 19 || false) (λ e. rw e) (or_elim (eqb n 19) false (λ e. rw (e, or-true (eqb n 18))) (λ e. absurd (false≢true e))) h

-- a cell, and the others behind it
pub record CellAnd (name : Bytes) (kids rest : Forest) : Type 0 where
  pub cell : is_cell (tag_of name) ≡ true
  pub holds : one_text plain_text kids ≡ true
  pub others : plain.cells rest ≡ true

pub cell_and : (name : Bytes) (attrs : List Attr) (kids rest : Forest) → plain.cells (element name attrs kids rest) ≡ true
    → CellAnd name kids rest
unfolding plain.cells
cell_and name attrs kids rest h =
    let c : Bool = is_cell (tag_of name) && null attrs in
    let d : (c && one_text plain_text kids) ≡ true = and_l (c && one_text plain_text kids) _ h in
    record { cell = and_l (is_cell (tag_of name)) _ (and_l c _ d); holds = and_r c _ d; others = and_r (c && one_text plain_text kids) _ h }

pub cells_count : (anc : Ancestors) (f : Forest) → plain.cells f ≡ true → length (cells_of anc f) ≡ count_nodes f
unfolding cells_of count_nodes
cells_count anc nothing h = refl
cells_count anc (text s rest) h = unfold plain.cells in absurd (false≢true h)
cells_count anc (comment s rest) h = unfold plain.cells in absurd (false≢true h)
cells_count anc (element name attrs kids rest) h =
    let c : CellAnd name kids rest = cell_and name attrs kids rest h in
    rw (cell_name (tag_of name) c.cell) (ap suc (cells_count anc rest c.others))

pub cells_th : (anc : Ancestors) (f : Forest) → plain.cells f ≡ true → all_th (cells_of anc f) ≡ list.all_th f
unfolding cells_of all_th list.all_th
cells_th anc nothing h = refl
cells_th anc (text s rest) h = unfold plain.cells in absurd (false≢true h)
cells_th anc (comment s rest) h = unfold plain.cells in absurd (false≢true h)
cells_th anc (element name attrs kids rest) h =
    let c : CellAnd name kids rest = cell_and name attrs kids rest h in
    rw (cell_name (tag_of name) c.cell) (ap (λ (t : Bool). eqb (tag_of name) tag.th && t) (cells_th anc rest c.others))

-- no row and no table stands in a cell
kids_rows : (anc : Ancestors) (q : Bytes → Bool) (kids : Forest) → one_text q kids ≡ true → rows_of anc kids ≡ []
unfolding rows_of
kids_rows anc q kids h = ap (rows_of anc) (one_text_lem q kids h)

kids_tables : (q : Bytes → Bool) (kids : Forest) → one_text q kids ≡ true → has_element tag.table kids ≡ false
unfolding has_element
kids_tables q kids h = ap (has_element tag.table) (one_text_lem q kids h)

cells_rows : (anc : Ancestors) (f : Forest) → plain.cells f ≡ true → rows_of anc f ≡ []
unfolding rows_of
cells_rows anc nothing h = refl
cells_rows anc (text s rest) h = unfold plain.cells in absurd (false≢true h)
cells_rows anc (comment s rest) h = unfold plain.cells in absurd (false≢true h)
cells_rows anc (element name attrs kids rest) h =
    let c : CellAnd name kids rest = cell_and name attrs kids rest h in
    rw (apart is_cell (tag_of name) tag.tr c.cell (unfold is_cell isin in refl), kids_rows (attrs ∷ anc) plain_text kids c.holds)
    (cells_rows anc rest c.others)

cells_tables : (f : Forest) → plain.cells f ≡ true → has_element tag.table f ≡ false
unfolding has_element
cells_tables nothing h = refl
cells_tables (text s rest) h = unfold plain.cells in absurd (false≢true h)
cells_tables (comment s rest) h = unfold plain.cells in absurd (false≢true h)
cells_tables (element name attrs kids rest) h =
    let c : CellAnd name kids rest = cell_and name attrs kids rest h in
    rw (apart is_cell (tag_of name) tag.table c.cell (unfold is_cell isin in refl), kids_tables plain_text kids c.holds)
    (cells_tables rest c.others)

-- ---- the rows of a table

one_row : (anc : Ancestors) (n : ℕ) (attrs : List Attr) (kids : Forest) (others : List Forest) → plain.row n attrs kids ≡ true
    → Rows (cond (eqb n tag.tr) (cells_of (attrs ∷ anc) kids ∷ []) [] ++ rows_of (attrs ∷ anc) kids) (cond (eqb n tag.tr) (kids ∷ []) others)
unfolding plain.row
one_row anc n attrs kids others h =
    rw (and_l (eqb n tag.tr) _ (and_l (eqb n tag.tr && null attrs) _ h), cells_rows (attrs ∷ anc) kids (and_r (eqb n tag.tr && null attrs) _ h))
    (some_rows (attrs ∷ anc) no_rows)

group_rows : (anc : Ancestors) (f : Forest) → plain.rows f ≡ true → Rows (rows_of anc f) (plain.rows_of f)
unfolding plain.rows rows_of plain.rows_of
group_rows anc nothing h = no_rows
group_rows anc (text s rest) h = absurd (false≢true h)
group_rows anc (comment s rest) h = absurd (false≢true h)
group_rows anc (element name attrs kids rest) h =
    let p : List (List Cell) = cond (eqb (tag_of name) tag.tr) (cells_of (attrs ∷ anc) kids ∷ []) [] in
    rw (← append_assoc p (rows_of (attrs ∷ anc) kids) (rows_of anc rest))
    (rows_app (one_row anc (tag_of name) attrs kids (plain.rows_of kids) (and_l (plain.row (tag_of name) attrs kids) _ h))
    (group_rows anc rest (and_r (plain.row (tag_of name) attrs kids) _ h)))

part_rows : (t : Bool) (anc : Ancestors) (n : ℕ) (attrs : List Attr) (kids : Forest) → is_row_group n ≡ t
    → cond t (null attrs && plain.rows kids) (plain.row n attrs kids) ≡ true
    → Rows (cond (eqb n tag.tr) (cells_of (attrs ∷ anc) kids ∷ []) [] ++ rows_of (attrs ∷ anc) kids) (cond (eqb n tag.tr) (kids ∷ []) (plain.rows_of kids))
part_rows true anc n attrs kids e h =
    rw (apart is_row_group n tag.tr e (unfold is_row_group isin in refl)) (group_rows (attrs ∷ anc) kids (and_r (null attrs) _ h))
part_rows false anc n attrs kids e h = one_row anc n attrs kids (plain.rows_of kids) h

pub table_rows_lem : (anc : Ancestors) (f : Forest) → table_parts f ≡ true → Rows (rows_of anc f) (plain.rows_of f)
unfolding table_parts rows_of plain.rows_of
table_rows_lem anc nothing h = no_rows
table_rows_lem anc (text s rest) h = absurd (false≢true h)
table_rows_lem anc (comment s rest) h = absurd (false≢true h)
table_rows_lem anc (element name attrs kids rest) h =
    let p : List (List Cell) = cond (eqb (tag_of name) tag.tr) (cells_of (attrs ∷ anc) kids ∷ []) [] in
    let c : Bool = cond (is_row_group (tag_of name)) (null attrs && plain.rows kids) (plain.row (tag_of name) attrs kids) in
    rw (← append_assoc p (rows_of (attrs ∷ anc) kids) (rows_of anc rest))
    (rows_app (part_rows (is_row_group (tag_of name)) anc (tag_of name) attrs kids refl (and_l c _ h)) (table_rows_lem anc rest (and_r c _ h)))

-- ---- no table in a table

row_tables : (n : ℕ) (attrs : List Attr) (kids : Forest) → plain.row n attrs kids ≡ true
    → (eqb n tag.table ≡ false) × (has_element tag.table kids ≡ false)
unfolding plain.row
row_tables n attrs kids h = (
  apart (λ m. eqb m tag.tr) n tag.table (and_l (eqb n tag.tr) _ (and_l (eqb n tag.tr && null attrs) _ h)) refl,
  cells_tables kids (and_r (eqb n tag.tr && null attrs) _ h),
)

group_tables : (f : Forest) → plain.rows f ≡ true → has_element tag.table f ≡ false
unfolding plain.rows has_element
group_tables nothing h = refl
group_tables (text s rest) h = absurd (false≢true h)
group_tables (comment s rest) h = absurd (false≢true h)
group_tables (element name attrs kids rest) h =
    let r : (eqb (tag_of name) tag.table ≡ false) × (has_element tag.table kids ≡ false) =
    row_tables (tag_of name) attrs kids (and_l (plain.row (tag_of name) attrs kids) _ h) in
    rw (r.0, r.1) (group_tables rest (and_r (plain.row (tag_of name) attrs kids) _ h))

part_tables : (t : Bool) (n : ℕ) (attrs : List Attr) (kids : Forest) → is_row_group n ≡ t
    → cond t (null attrs && plain.rows kids) (plain.row n attrs kids) ≡ true
    → (eqb n tag.table ≡ false) × (has_element tag.table kids ≡ false)
part_tables true n attrs kids e h = (apart is_row_group n tag.table e (unfold is_row_group isin in refl), group_tables kids (and_r (null attrs) _ h))
part_tables false n attrs kids e h = row_tables n attrs kids h

pub no_tables : (f : Forest) → table_parts f ≡ true → has_element tag.table f ≡ false
unfolding table_parts has_element
no_tables nothing h = refl
no_tables (text s rest) h = absurd (false≢true h)
no_tables (comment s rest) h = absurd (false≢true h)
no_tables (element name attrs kids rest) h =
    let c : Bool = cond (is_row_group (tag_of name)) (null attrs && plain.rows kids) (plain.row (tag_of name) attrs kids) in
    let r : (eqb (tag_of name) tag.table ≡ false) × (has_element tag.table kids ≡ false) =
    part_tables (is_row_group (tag_of name)) (tag_of name) attrs kids refl (and_l c _ h) in
    rw (r.0, r.1) (no_tables rest (and_r c _ h))

-- ---- as many cells in each row

have_equal : {cs : List (List Cell)} {fs : List Forest} (n : ℕ) → Rows cs fs → all_cells fs ≡ true → all_have (suc n) fs ≡ true
    → equal_rows (suc n) cs ≡ true
unfolding all_cells all_have equal_rows
have_equal n no_rows c h = refl
have_equal n (some_rows {f} anc k) c h =
    rw (cells_count anc f (and_l (plain.cells f) _ c), and_l (eqb (count_nodes f) (suc n)) _ h)
    (have_equal n k (and_r (plain.cells f) _ c) (and_r (eqb (count_nodes f) (suc n)) _ h))

pub all_equal : {cs : List (List Cell)} {fs : List Forest} (n : ℕ) → Rows cs fs → all_cells fs ≡ true → all_have (suc n) fs ≡ true
    → equal_rows 0 cs ≡ true
unfolding all_cells all_have equal_rows
all_equal n no_rows c h = refl
all_equal n (some_rows {f} anc k) c h =
    rw (cells_count anc f (and_l (plain.cells f) _ c), eqb-true (count_nodes f) (suc n) (and_l (eqb (count_nodes f) (suc n)) _ h))
    (have_equal n k (and_r (plain.cells f) _ c) (and_r (eqb (count_nodes f) (suc n)) _ h))
