-- The lines of a plain sheet hold no line end and no NUL, and the last of them is not empty.
use Rattle.std.specs.Prelude.{ℕ, zero, suc, ◌+◌, max, ◌≡◌, Bool, cond, not, ◌&&◌, List, [], ◌∷◌, ◌++◌, map, eqb, length, replicate}
use Rattle.std.proofs.Math.Path.{refl, subst}
use Rattle.std.proofs.Common.{sym, ap, true≢false, append-nil, eqb-true}
use Rattle.std.proofs.Math.Bool.{true, false}
use Rattle.std.proofs.lemmas.Bool.{false≢true, not-true}
use Rattle.std.proofs.Math.Option.{Option, none, some}
use Rattle.spec.specs.Bytes.{Bytes, ascii, null, isin, every, digit, decimal, words}
use Rattle.spec.specs.Names as tag
use Rattle.spec.specs.Names.{tag_of}
use Rattle.spec.specs.Tree.{Attr, Forest, nothing, text, comment, element}
use Rattle.spec.specs.ListNumber.{first_due, item_number, next_due}
use Rattle.spec.specs.Plain as plain
use Rattle.spec.specs.Plain.{without, plain_text, fixed_text, no_node, one_text, is_cell, is_list_name, is_wrapper, holds_text, count_nodes, equal_rows, table_parts, plain_table, leaf, block, blocks, items, item_content, lists}
use Rattle.spec.specs.SheetList.{first_text, all_th, is_heading_name}
use Rattle.spec.specs.Md.Elements.Code.{max_backtick_run}
use Rattle.spec.proofs.Tests.{and_l, and_r, or_elim, apart, every_app, every_imp, every_replicate}
use Rattle.recovery.proofs.Digits.{decimal_digits}
use Rattle.recovery.proofs.Words.{plain_words, text_words, text_some, absent}
use Rattle.recovery.proofs.Escapes.{phrase_Esc, heading_Esc}
use Rattle.recovery.proofs.Joined.{in_line, clean, clean_app, last_some}
use Rattle.recovery.proofs.Markers.{solid, opens_phrase, opens_solid, solid_null, marker_solid}
use Rattle.recovery.proofs.Cells.{in_cell_lem}
use Rattle.recovery.proofs.Tables.{cell_line}
use Rattle.recovery.proofs.TableBlocks.{kids_text, all_cells, table_rows_lem}
use Rattle.recovery.proofs.Lists.{ItemOk, item_ok, ListOk, list_ok}
use Rattle.recovery.specs.Closed.{phrase, heading_words, heading_line, fixed_byte, fixed_lines, fence_of, fenced_lines, cell_phrases, row_tail, row_line, hyphens, data_lines, under_headings, blank_headings, table_by, table_lines, marker, item_line, deeper, list_interrupts, spaced, items_lines, content_lines, lists_lines, leaf_lines, own_lines, block_lines, sheet_lines}

-- ---- lists of lines

-- no line holds a line end, and the last holds something
pub record Good (ls : List Bytes) : Type 0 where
  pub whole : clean ls ≡ true
  pub last : last_some ls ≡ true

-- likewise, and there is a line
pub record Full (ls : List Bytes) : Type 0 where
  pub whole : clean ls ≡ true
  pub last : last_some ls ≡ true
  pub some_line : null ls ≡ false

full_good : {ls : List Bytes} → Full ls → Good ls
full_good f = record { whole = f.whole; last = f.last }

good_nil : Good []
unfolding clean last_some
good_nil = record { whole = refl; last = refl }

last_behind : (a b : List Bytes) → null b ≡ false → last_some b ≡ true → last_some (a ++ b) ≡ true
unfolding last_some null
last_behind [] b n h = h
last_behind (l ∷ []) b n h = rw n h
last_behind (l ∷ m ∷ a) b n h = last_behind (m ∷ a) b n h

last_app : (a b : List Bytes) → last_some a ≡ true → last_some b ≡ true → last_some (a ++ b) ≡ true
unfolding null
last_app a [] h k = rw (append-nil a) h
last_app a (l ∷ b) h k = last_behind a (l ∷ b) refl k

pub some_app : {A : Type 0} (a b : List A) → null a ≡ false → null (a ++ b) ≡ false
unfolding null
some_app [] b n = absurd (true≢false n)
some_app (l ∷ a) b n = refl

some_behind : (a b : List Bytes) → null b ≡ false → null (a ++ b) ≡ false
unfolding null
some_behind [] b n = n
some_behind (l ∷ a) b n = refl

good_app : {a b : List Bytes} → Good a → Good b → Good (a ++ b)
good_app {a} {b} g h = record { whole = clean_app a b g.whole h.whole; last = last_app a b g.last h.last }

full_app : {a b : List Bytes} → Full a → Good b → Full (a ++ b)
full_app {a} {b} g h =
    record { whole = clean_app a b g.whole h.whole; last = last_app a b g.last h.last; some_line = some_app a b g.some_line }

-- whatever stands before
full_behind : (a : List Bytes) {b : List Bytes} → clean a ≡ true → Full b → Full (a ++ b)
full_behind a {b} c h =
    record { whole = clean_app a b c h.whole; last = last_behind a b h.some_line h.last; some_line = some_behind a b h.some_line }

full_one : (l : Bytes) → every in_line l ≡ true → null l ≡ false → Full (l ∷ [])
unfolding clean last_some null
full_one l h n = record { whole = rw h; last = ap not n; some_line = refl }

full_cons : (l : Bytes) {ls : List Bytes} → every in_line l ≡ true → null l ≡ false → Good ls → Full (l ∷ ls)
full_cons l h n g = full_app (full_one l h n) g

full_empty : {ls : List Bytes} → Full ls → Full ([] ∷ ls)
full_empty f = full_behind ([] ∷ []) (unfold clean every in refl) f

full_spaced : (t : Bool) {ls : List Bytes} → Full ls → Full (spaced t ls)
unfolding spaced
full_spaced true f = f
full_spaced false f = full_empty f

-- ---- words

phrase_line : (ws : List Bytes) → plain_words ws ≡ true → null ws ≡ false → every in_line (phrase ws) ≡ true
unfolding null
phrase_line [] h n = absurd (true≢false n)
phrase_line (w ∷ ws) h n = cell_line (in_cell_lem (phrase_Esc w ws h)).celled

phrase_some : (ws : List Bytes) → plain_words ws ≡ true → null ws ≡ false → null (phrase ws) ≡ false
unfolding null
phrase_some [] h n = absurd (true≢false n)
phrase_some (w ∷ ws) h n = solid_null (phrase (w ∷ ws)) (opens_solid (phrase (w ∷ ws)) (opens_phrase w ws h))

text_line_lem : (s : Bytes) → plain_text s ≡ true → every in_line (phrase (words s)) ≡ true
text_line_lem s h = phrase_line (words s) (text_words s h) (text_some s h)

hash_line : in_line 35 ≡ true
unfolding in_line isin
hash_line = refl

heading_line_lem : (level : ℕ) (ws : List Bytes) → plain_words ws ≡ true → Full (heading_line (suc level) ws ∷ [])
unfolding heading_line null
heading_line_lem level ws h =
    full_one (replicate (suc level) 35 ++ heading_words ws)
    (every_app in_line (replicate (suc level) 35) (heading_words ws) (every_replicate in_line (suc level) 35 hash_line) (cell_line (in_cell_lem (heading_Esc ws h)).celled)) refl

-- ---- items

digit_line : (b : ℕ) → digit b ≡ true → in_line b ≡ true
unfolding digit in_line isin
digit_line b h = rw (apart digit b 0 h refl, apart digit b 10 h refl, apart digit b 13 h refl)

marker_line : (number : Option ℕ) → every in_line (marker number) ≡ true
unfolding marker every in_line isin
marker_line none = refl
marker_line (some n) = every_app in_line (decimal n) (46 ∷ 32 ∷ []) (every_imp digit in_line (decimal n) digit_line (decimal_digits n)) refl

blank_line_lem : in_line 32 ≡ true
unfolding in_line isin
blank_line_lem = refl

indented_some : (i : ℕ) (t : Bytes) → solid t ≡ true → null (replicate i 32 ++ t) ≡ false
unfolding null
indented_some zero t h = solid_null t h
indented_some (suc i) t h = refl

item_full : (i : ℕ) (number : Option ℕ) (s : Bytes) {ls : List Bytes} → plain_text s ≡ true → Good ls → Full (item_line i number (words s) ∷ ls)
unfolding item_line
item_full i number s h g =
    full_cons (replicate i 32 ++ (marker number ++ phrase (words s)))
    (every_app in_line (replicate i 32) (marker number ++ phrase (words s)) (every_replicate in_line i 32 blank_line_lem)
    (every_app in_line (marker number) (phrase (words s)) (marker_line number) (text_line_lem s h)))
    (indented_some i (marker number ++ phrase (words s)) (marker_solid number (phrase (words s)))) g

mutual
  unfolding items item_content lists no_node items_lines content_lines lists_lines

  items_full : (f : Forest) (i : ℕ) (due : Option ℕ) → items f due ≡ true → no_node f ≡ false → Full (items_lines f i due)
  items_full nothing i due ok n = absurd (true≢false n)
  items_full (text s rest) i due ok n = absurd (false≢true ok)
  items_full (comment s rest) i due ok n = absurd (false≢true ok)
  items_full (element name attrs kids rest) i due ok n =
      let k : ItemOk due name attrs kids rest = item_ok due name attrs kids rest ok in
      full_app (content_full kids i (item_number due attrs) k.inner) (items_good rest i (next_due (item_number due attrs)) k.others)

  items_good : (f : Forest) (i : ℕ) (due : Option ℕ) → items f due ≡ true → Good (items_lines f i due)
  items_good nothing i due ok = good_nil
  items_good (text s rest) i due ok = absurd (false≢true ok)
  items_good (comment s rest) i due ok = absurd (false≢true ok)
  items_good (element name attrs kids rest) i due ok =
      let k : ItemOk due name attrs kids rest = item_ok due name attrs kids rest ok in
      full_good (full_app (content_full kids i (item_number due attrs) k.inner) (items_good rest i (next_due (item_number due attrs)) k.others))

  content_full : (f : Forest) (i : ℕ) (number : Option ℕ) → item_content f ≡ true → Full (content_lines f i number)
  content_full nothing i number ok = absurd (false≢true ok)
  content_full (text s rest) i number ok =
      item_full i number s (and_l (plain_text s) _ ok) (lists_good rest (i + deeper number) true (and_r (plain_text s) _ ok))
  content_full (comment s rest) i number ok = absurd (false≢true ok)
  content_full (element name attrs kids rest) i number ok = absurd (false≢true ok)

  lists_good : (f : Forest) (i : ℕ) (first : Bool) → lists f ≡ true → Good (lists_lines f i first)
  lists_good nothing i first ok = good_nil
  lists_good (text s rest) i first ok = absurd (false≢true ok)
  lists_good (comment s rest) i first ok = absurd (false≢true ok)
  lists_good (element name attrs kids rest) i first ok =
      let k : ListOk name attrs kids rest = list_ok name attrs kids rest ok in
      full_good (full_spaced (first && list_interrupts (first_due (tag_of name) attrs) kids)
      (full_app (items_full kids i (first_due (tag_of name) attrs) k.inner k.some_item) (lists_good rest i false k.others)))

-- ---- fixed text

byte_clean : (t : Bool) (b : ℕ) (ls : List Bytes) → eqb b 10 ≡ t → eqb b 0 ≡ false → eqb b 13 ≡ false → clean ls ≡ true → clean (fixed_byte t b ls) ≡ true
unfolding fixed_byte clean every in_line isin
byte_clean true b ls e z c h = h
byte_clean false b [] e z c h = rw (z, e, c)
byte_clean false b (l ∷ ls) e z c h = rw (z, e, c) h

fixed_clean : (s : Bytes) → every (λ b. not (eqb b 0)) s ≡ true → every (λ b. not (eqb b 13)) s ≡ true → clean (fixed_lines s) ≡ true
unfolding every fixed_lines
fixed_clean [] h k = unfold clean in refl
fixed_clean (b ∷ s) h k =
    byte_clean (eqb b 10) b (fixed_lines s) refl (not-true (eqb b 0) (and_l (not (eqb b 0)) _ h)) (not-true (eqb b 13) (and_l (not (eqb b 13)) _ k))
    (fixed_clean s (and_r (not (eqb b 0)) _ h) (and_r (not (eqb b 13)) _ k))

tick_line : in_line 96 ≡ true
unfolding in_line isin
tick_line = refl

fence_full : (s : Bytes) → Full (fence_of s ∷ [])
unfolding fence_of null
fence_full s =
    let n : ℕ = suc (max (max_backtick_run s) 2) in
    full_one (replicate n 96) (every_replicate in_line n 96 tick_line) refl

pub fixed_lines_lem : (s : Bytes) → fixed_text s ≡ true → clean (fixed_lines s) ≡ true
unfolding fixed_text without
fixed_lines_lem s h =
    fixed_clean s (absent 0 s (not-true (isin 0 s) (and_l (not (isin 0 s)) _ h)))
    (absent 13 s (not-true (isin 13 s) (and_l (not (isin 13 s)) true (and_r (not (isin 0 s)) _ h))))

fixed_full : (s : Bytes) → fixed_text s ≡ true → Full (fenced_lines s)
unfolding fenced_lines
fixed_full s h = full_behind (fence_of s ∷ []) (fence_full s).whole (full_behind (fixed_lines s) (fixed_lines_lem s h) (fence_full s))

-- ---- tables

tail_clean : (cs : List Bytes) → clean cs ≡ true → every in_line (row_tail cs) ≡ true
unfolding clean row_tail every in_line isin
tail_clean [] h = refl
tail_clean (c ∷ cs) h = every_app in_line c (32 ∷ 124 ∷ row_tail cs) (and_l (every in_line c) _ h) (tail_clean cs (and_r (every in_line c) _ h))

row_full : (cs : List Bytes) {ls : List Bytes} → clean cs ≡ true → Good ls → Full (row_line cs ∷ ls)
unfolding row_line null
row_full cs h g = full_cons (124 ∷ row_tail cs) (unfold every in_line isin in tail_clean cs h) refl g

cells_clean : (r : Forest) → plain.cells r ≡ true → clean (cell_phrases r) ≡ true
unfolding plain.cells cell_phrases clean
cells_clean nothing h = refl
cells_clean (text s rest) h = absurd (false≢true h)
cells_clean (comment s rest) h = absurd (false≢true h)
cells_clean (element name attrs kids rest) h =
    let c : Bool = is_cell (tag_of name) && null attrs in
    rw (text_line_lem (first_text kids) (kids_text plain_text kids (and_r c _ (and_l (c && one_text plain_text kids) _ h)))) (cells_clean rest (and_r (c && one_text plain_text kids) _ h))

data_good : (rs : List Forest) → all_cells rs ≡ true → Good (data_lines rs)
unfolding all_cells data_lines
data_good [] h = good_nil
data_good (r ∷ rs) h = full_good (row_full (cell_phrases r) (cells_clean r (and_l (plain.cells r) _ h)) (data_good rs (and_r (plain.cells r) _ h)))

dash_line : in_line 45 ≡ true
unfolding in_line isin
dash_line = refl

hyphens_clean : (hs : List Bytes) → clean (map hyphens hs) ≡ true
unfolding clean hyphens
hyphens_clean [] = refl
hyphens_clean (c ∷ hs) = rw (every_replicate in_line (max (length c) 1) 45 dash_line) (hyphens_clean hs)

blank_clean : (n : ℕ) → clean (replicate n (32 ∷ [])) ≡ true
unfolding clean every in_line isin
blank_clean zero = refl
blank_clean (suc n) = blank_clean n

under_full : (hs : List Bytes) (rs : List Forest) → clean hs ≡ true → all_cells rs ≡ true → Full (under_headings hs rs)
unfolding under_headings
under_full hs rs h k = row_full hs h (full_good (row_full (map hyphens hs) (hyphens_clean hs) (data_good rs k)))

by_full : (t : Bool) (r : Forest) (rs : List Forest) → all_cells (r ∷ rs) ≡ true → Full (table_by t r rs)
unfolding table_by blank_headings all_cells
by_full true r rs h = under_full (cell_phrases r) rs (cells_clean r (and_l (plain.cells r) _ h)) (and_r (plain.cells r) _ h)
by_full false r rs h = under_full (replicate (count_nodes r) (32 ∷ [])) (r ∷ rs) (blank_clean (count_nodes r)) h

rows_full : (rs : List Forest) → all_cells rs ≡ true → equal_rows rs ≡ true → Full (table_lines rs)
unfolding equal_rows table_lines
rows_full [] h e = absurd (false≢true e)
rows_full (r ∷ rs) h e = by_full (all_th r) r rs h

table_full : (kids : Forest) → plain_table kids ≡ true → Full (table_lines (plain.rows_of kids))
unfolding plain_table
table_full kids h = rows_full (plain.rows_of kids) (table_rows_lem kids (and_l (table_parts kids) _ h)) (and_r (table_parts kids) _ h)

-- ---- leaves

module _ (kids : Forest) where
  abbrev Lines : ℕ → Type 0
  Lines n = Full (leaf_lines n kids)

  full_paragraph : one_text plain_text kids ≡ true → Lines 4
  unfolding leaf_lines is_heading_name
  full_paragraph h =
      let s : Bytes = first_text kids in
      let p : plain_text s ≡ true = kids_text plain_text kids h in
      full_one (phrase (words s)) (text_line_lem s p) (phrase_some (words s) (text_words s p) (text_some s p))

  full_heading : (l : ℕ) → one_text plain_text kids ≡ true → Full (heading_line (suc l) (words (first_text kids)) ∷ [])
  full_heading l h = heading_line_lem l (words (first_text kids)) (text_words (first_text kids) (kids_text plain_text kids h))

  full_rule : Lines 15
  unfolding leaf_lines every in_line isin null
  full_rule = full_one (ascii "---") refl refl

  full_fixed : one_text fixed_text kids ≡ true → Lines 23
  unfolding leaf_lines is_heading_name
  full_fixed h = fixed_full (first_text kids) (kids_text fixed_text kids h)

  full_table : plain_table kids ≡ true → Lines 14
  unfolding leaf_lines is_heading_name
  full_table h = table_full kids h

  full_text : (n : ℕ) → holds_text n ≡ true → one_text plain_text kids ≡ true → Lines n
  unfolding holds_text isin leaf_lines is_heading_name
  full_text n t h =
      or_elim (eqb n 4) _ (λ e. subst Lines (sym (eqb-true n 4 e)) (full_paragraph h))
      (or_elim (eqb n 5) _ (λ e. subst Lines (sym (eqb-true n 5 e)) (full_heading 0 h))
      (or_elim (eqb n 6) _ (λ e. subst Lines (sym (eqb-true n 6 e)) (full_heading 1 h))
      (or_elim (eqb n 7) _ (λ e. subst Lines (sym (eqb-true n 7 e)) (full_heading 2 h))
      (or_elim (eqb n 8) _ (λ e. subst Lines (sym (eqb-true n 8 e)) (full_heading 3 h))
      (or_elim (eqb n 9) _ (λ e. subst Lines (sym (eqb-true n 9 e)) (full_heading 4 h))
      (or_elim (eqb n 10) false (λ e. subst Lines (sym (eqb-true n 10 e)) (full_heading 5 h)) (λ e. absurd (false≢true e)))))))) t

  full_by : (t u v w : Bool) (n : ℕ) → holds_text n ≡ t → eqb n 15 ≡ u → eqb n 23 ≡ v → eqb n 14 ≡ w
      → cond t (one_text plain_text kids) (cond u (no_node kids) (cond v (one_text fixed_text kids) (cond w (plain_table kids) false))) ≡ true → Lines n
  full_by true u v w n e f g i h = full_text n e h
  full_by false true v w n e f g i h = subst Lines (sym (eqb-true n 15 f)) full_rule
  full_by false false true w n e f g i h = subst Lines (sym (eqb-true n 23 g)) (full_fixed h)
  full_by false false false true n e f g i h = subst Lines (sym (eqb-true n 14 i)) (full_table h)
  full_by false false false false n e f g i h = absurd (false≢true h)

  leaf_full : (n : ℕ) → leaf n kids ≡ true → Lines n
  unfolding leaf
  leaf_full n h = full_by (holds_text n) (eqb n 15) (eqb n 23) (eqb n 14) n refl refl refl refl h

-- ---- blocks and the sheet

own_full : (name : Bytes) (attrs : List Attr) (kids : Forest) → block name attrs kids ≡ true → Full (own_lines (tag_of name) attrs kids)
unfolding block own_lines
own_full name attrs kids h = go (is_list_name (tag_of name)) h
  where
    go : (t : Bool) → cond t (lists (element name attrs kids nothing)) (null attrs && leaf (tag_of name) kids) ≡ true
        → Full (cond t (items_lines kids 0 (first_due (tag_of name) attrs)) (leaf_lines (tag_of name) kids))
    go true h =
        let l : ListOk name attrs kids nothing = list_ok name attrs kids nothing h in
        items_full kids 0 (first_due (tag_of name) attrs) l.inner l.some_item
    go false h = leaf_full kids (tag_of name) (and_r (null attrs) _ h)

block_full : (name : Bytes) (attrs : List Attr) (kids : Forest) → block name attrs kids ≡ true → Full (block_lines (tag_of name) attrs kids)
unfolding block_lines
block_full name attrs kids h = full_empty (go (eqb (tag_of name) tag.table) (own_full name attrs kids h))
  where
    go : (t : Bool) → Full (own_lines (tag_of name) attrs kids)
        → Full (cond t ([] ∷ own_lines (tag_of name) attrs kids) (own_lines (tag_of name) attrs kids))
    go true f = full_empty f
    go false f = f

element_good : (t : Bool) (name : Bytes) (attrs : List Attr) (kids rest : Forest) → cond t (null attrs && blocks kids) (block name attrs kids) ≡ true
    → (blocks kids ≡ true → Good (sheet_lines kids)) → Good (sheet_lines rest)
    → Good (cond t (sheet_lines kids) (block_lines (tag_of name) attrs kids) ++ sheet_lines rest)
element_good true name attrs kids rest h k r = good_app (k (and_r (null attrs) _ h)) r
element_good false name attrs kids rest h k r = good_app (full_good (block_full name attrs kids h)) r

pub sheet_good : (f : Forest) → blocks f ≡ true → Good (sheet_lines f)
unfolding blocks sheet_lines
sheet_good nothing h = good_nil
sheet_good (text s rest) h = absurd (false≢true h)
sheet_good (comment s rest) h = absurd (false≢true h)
sheet_good (element name attrs kids rest) h =
    let c : Bool = cond (is_wrapper (tag_of name)) (null attrs && blocks kids) (block name attrs kids) in
    element_good (is_wrapper (tag_of name)) name attrs kids rest (and_l c _ h) (λ k. sheet_good kids k) (sheet_good rest (and_r c _ h))
