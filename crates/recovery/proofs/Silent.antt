-- What stands inside a leaf gives nothing to the sheet's list.
use Rattle.std.specs.Prelude.{ℕ, ◌≡◌, refl, Bool, true, false, cond, ◌&&◌, List, [], ◌∷◌, ◌++◌, eqb}
use Rattle.std.proofs.lemmas.Bool.{false≢true}
use Rattle.std.proofs.Math.Option.{Option, none}
use Rattle.std.proofs.Common.{eqb-true}
use Rattle.spec.specs.Bytes.{Bytes, null, isin}
use Rattle.spec.specs.Names as tag
use Rattle.spec.specs.Names.{tag_of}
use Rattle.spec.specs.Tree.{Attr, Forest, nothing, text, comment, element}
use Rattle.spec.specs.ListNumber.{first_due, item_number, next_due}
use Rattle.spec.specs.Plain as plain
use Rattle.spec.specs.Plain.{plain_text, fixed_text, no_node, one_text, is_cell, is_row_group, is_list_name, is_wrapper, holds_text, table_parts, plain_table, leaf}
use Rattle.spec.specs.SheetList.{is_heading_name, own, depth_inside, due_behind, entries}
use Rattle.spec.proofs.Tests.{and_l, and_r, or_elim}

-- the nodes give nothing, wherever they stand
abbrev pub Silent : Forest → Type 0
Silent f = (d : ℕ) (due : Option ℕ) → entries d due f ≡ []

node_silent : (f : Forest) → no_node f ≡ true → Silent f
unfolding no_node entries
node_silent nothing h d due = refl
node_silent (text s rest) h d due = absurd (false≢true h)
node_silent (comment s rest) h d due = absurd (false≢true h)
node_silent (element name attrs kids rest) h d due = absurd (false≢true h)

text_silent : (q : Bytes → Bool) (f : Forest) → one_text q f ≡ true → Silent f
unfolding one_text entries
text_silent q nothing h d due = absurd (false≢true h)
text_silent q (text s rest) h d due = node_silent rest (and_r (q s) _ h) d due
text_silent q (comment s rest) h d due = absurd (false≢true h)
text_silent q (element name attrs kids rest) h d due = absurd (false≢true h)

-- an element of a table's inside
unfoldable in_table : ℕ → Bool
in_table n = isin n (17 ∷ 18 ∷ 19 ∷ 29 ∷ 30 ∷ [])

own_silent : (n d : ℕ) (due : Option ℕ) (attrs : List Attr) (kids : Forest) → in_table n ≡ true → own n d due attrs kids ≡ []
unfolding in_table isin own is_heading_name
own_silent n d due attrs kids h =
    or_elim (eqb n 17) _ (λ e. rw (eqb-true n 17 e)) (or_elim (eqb n 18) _ (λ e. rw (eqb-true n 18 e))
    (or_elim (eqb n 19) _ (λ e. rw (eqb-true n 19 e)) (or_elim (eqb n 29) _ (λ e. rw (eqb-true n 29 e))
    (or_elim (eqb n 30) false (λ e. rw (eqb-true n 30 e)) (λ e. absurd (false≢true e)))))) h

element_silent : (name : Bytes) (attrs : List Attr) (kids rest : Forest) → in_table (tag_of name) ≡ true → Silent kids → Silent rest
    → Silent (element name attrs kids rest)
unfolding entries
element_silent name attrs kids rest h k r d due =
    rw (
      own_silent (tag_of name) d due attrs kids h,
      k (depth_inside (tag_of name) d) (first_due (tag_of name) attrs),
      r d (due_behind (tag_of name) due attrs),
    )

cell_tag : (n : ℕ) → is_cell n ≡ true → in_table n ≡ true
unfolding is_cell in_table isin
cell_tag n h = or_elim (eqb n 18) _ (λ e. rw (eqb-true n 18 e)) (or_elim (eqb n 19) false (λ e. rw (eqb-true n 19 e)) (λ e. absurd (false≢true e))) h

group_tag : (n : ℕ) → is_row_group n ≡ true → in_table n ≡ true
unfolding is_row_group in_table isin
group_tag n h = or_elim (eqb n 29) _ (λ e. rw (eqb-true n 29 e)) (or_elim (eqb n 30) false (λ e. rw (eqb-true n 30 e)) (λ e. absurd (false≢true e))) h

row_tag : (n : ℕ) → eqb n tag.tr ≡ true → in_table n ≡ true
unfolding in_table isin
row_tag n h = rw (eqb-true n 17 h)

cells_silent : (f : Forest) → plain.cells f ≡ true → Silent f
unfolding plain.cells
cells_silent nothing h = node_silent nothing (unfold no_node in refl)
cells_silent (text s rest) h = absurd (false≢true h)
cells_silent (comment s rest) h = absurd (false≢true h)
cells_silent (element name attrs kids rest) h =
    let c : Bool = is_cell (tag_of name) && null attrs in
    let x : (c && one_text plain_text kids) ≡ true = and_l (c && one_text plain_text kids) _ h in
    element_silent name attrs kids rest (cell_tag (tag_of name) (and_l (is_cell (tag_of name)) _ (and_l c _ x))) (text_silent plain_text kids (and_r c _ x))
    (cells_silent rest (and_r (c && one_text plain_text kids) _ h))

row_silent : (name : Bytes) (attrs : List Attr) (kids rest : Forest) → plain.row (tag_of name) attrs kids ≡ true → Silent rest
    → Silent (element name attrs kids rest)
unfolding plain.row
row_silent name attrs kids rest h r =
    let c : Bool = eqb (tag_of name) tag.tr && null attrs in
    element_silent name attrs kids rest (row_tag (tag_of name) (and_l (eqb (tag_of name) tag.tr) _ (and_l c _ h))) (cells_silent kids (and_r c _ h)) r

rows_silent : (f : Forest) → plain.rows f ≡ true → Silent f
unfolding plain.rows
rows_silent nothing h = node_silent nothing (unfold no_node in refl)
rows_silent (text s rest) h = absurd (false≢true h)
rows_silent (comment s rest) h = absurd (false≢true h)
rows_silent (element name attrs kids rest) h =
    row_silent name attrs kids rest (and_l (plain.row (tag_of name) attrs kids) _ h) (rows_silent rest (and_r (plain.row (tag_of name) attrs kids) _ h))

part_silent : (t : Bool) (name : Bytes) (attrs : List Attr) (kids rest : Forest) → is_row_group (tag_of name) ≡ t
    → cond t (null attrs && plain.rows kids) (plain.row (tag_of name) attrs kids) ≡ true → Silent rest → Silent (element name attrs kids rest)
part_silent true name attrs kids rest e h r =
    element_silent name attrs kids rest (group_tag (tag_of name) e) (rows_silent kids (and_r (null attrs) _ h)) r
part_silent false name attrs kids rest e h r = row_silent name attrs kids rest h r

table_silent : (f : Forest) → table_parts f ≡ true → Silent f
unfolding table_parts
table_silent nothing h = node_silent nothing (unfold no_node in refl)
table_silent (text s rest) h = absurd (false≢true h)
table_silent (comment s rest) h = absurd (false≢true h)
table_silent (element name attrs kids rest) h =
    let c : Bool = cond (is_row_group (tag_of name)) (null attrs && plain.rows kids) (plain.row (tag_of name) attrs kids) in
    part_silent (is_row_group (tag_of name)) name attrs kids rest refl (and_l c _ h) (table_silent rest (and_r c _ h))

leaf_silent_by : (t u v w : Bool) (kids : Forest)
    → cond t (one_text plain_text kids) (cond u (no_node kids) (cond v (one_text fixed_text kids) (cond w (plain_table kids) false))) ≡ true → Silent kids
leaf_silent_by true u v w kids h = text_silent plain_text kids h
leaf_silent_by false true v w kids h = node_silent kids h
leaf_silent_by false false true w kids h = text_silent fixed_text kids h
leaf_silent_by false false false true kids h = unfold plain_table in table_silent kids (and_l (table_parts kids) _ h)
leaf_silent_by false false false false kids h = absurd (false≢true h)

pub leaf_silent : (n : ℕ) (kids : Forest) → leaf n kids ≡ true → Silent kids
unfolding leaf
leaf_silent n kids h = leaf_silent_by (holds_text n) (eqb n tag.hr) (eqb n tag.pre) (eqb n tag.table) kids h

-- ---- the sheet's list at a leaf and at a wrapper

due_behind_lem : (n : ℕ) (attrs : List Attr) → due_behind n none attrs ≡ none
unfolding due_behind item_number next_due
due_behind_lem n attrs = go (eqb n tag.li)
  where
    go : (t : Bool) → ◌≡◌ {A = Option ℕ} (cond t none none) none
    go true = refl
    go false = refl

pub entries_leaf : (name : Bytes) (attrs : List Attr) (kids rest : Forest) → Silent kids
    → entries 0 none (element name attrs kids rest) ≡ own (tag_of name) 0 none attrs kids ++ entries 0 none rest
unfolding entries
entries_leaf name attrs kids rest k =
    rw (k (depth_inside (tag_of name) 0) (first_due (tag_of name) attrs), due_behind_lem (tag_of name) attrs)

pub entries_wrapper : (name : Bytes) (attrs : List Attr) (kids rest : Forest) → is_wrapper (tag_of name) ≡ true
    → entries 0 none (element name attrs kids rest) ≡ entries 0 none kids ++ entries 0 none rest
unfolding entries is_wrapper isin own is_heading_name depth_inside is_list_name first_due due_behind
entries_wrapper name attrs kids rest h =
    or_elim (eqb (tag_of name) 3) _ (λ e. rw (eqb-true (tag_of name) 3 e)) (or_elim (eqb (tag_of name) 2) _ (λ e. rw (eqb-true (tag_of name) 2 e))
    (or_elim (eqb (tag_of name) 1) false (λ e. rw (eqb-true (tag_of name) 1 e)) (λ e. absurd (false≢true e)))) h
