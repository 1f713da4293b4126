-- Plain sheets (document 01, "Plain sheets and their reading"), a test on what the fragment holds.
use Rattle.std.specs.Prelude.{ℕ, suc, Bool, true, false, cond, not, ◌&&◌, ◌||◌, List, [], ◌∷◌, ◌++◌, drop, eqb, leb}
use Rattle.std.proofs.Math.Option.{Option, none, some}
use Rattle.spec.specs.Bytes.{Bytes, ascii, null, same, isin, starts_with, ends_with, white_space_of, words, first_word}
use Rattle.spec.specs.Names as tag
use Rattle.spec.specs.Names.{tag_of}
use Rattle.spec.specs.Tree.{Attr, Forest, nothing, text, comment, element}
use Rattle.spec.specs.ListNumber.{largest_number, first_due, item_value, item_number, next_due}

-- ---- texts

-- the blanks outside ASCII: White_Space without its six ASCII characters
unfoldable pub wide_blanks : List Bytes
wide_blanks = drop 6 white_space_of

unfoldable pub begins_with_any : List Bytes → Bytes → Bool
begins_with_any [] s = false
begins_with_any (x ∷ xs) s = starts_with x s || begins_with_any xs s

unfoldable pub ends_with_any : List Bytes → Bytes → Bool
ends_with_any [] s = false
ends_with_any (x ∷ xs) s = ends_with x s || ends_with_any xs s

unfoldable pub last_word : List Bytes → Bytes
last_word [] = []
last_word (w ∷ []) = w
last_word (w ∷ v ∷ ws) = last_word (v ∷ ws)

-- "white bytes apart, no blank outside ASCII at either end": apart from white bytes, a text begins with its first word and
-- ends with its last
unfoldable pub plain_ends : List Bytes → Bool
plain_ends ws = not (begins_with_any wide_blanks (first_word ws)) && not (ends_with_any wide_blanks (last_word ws))

-- none of the bytes is in s
unfoldable pub without : Bytes → Bytes → Bool
without [] s = true
without (b ∷ bs) s = not (isin b s) && without bs s

-- "These texts have a word each, no NUL, VT or `&`, and, white bytes apart, no blank outside ASCII at either end."
unfoldable pub plain_text : Bytes → Bool
plain_text s = (not (null (words s)) && without (0 ∷ 11 ∷ 38 ∷ []) s) && plain_ends (words s)

-- "A `pre` holds one text without NUL or CR."
unfoldable pub fixed_text : Bytes → Bool
fixed_text s = without (0 ∷ 13 ∷ []) s

unfoldable pub no_node : Forest → Bool
no_node nothing = true
no_node (text s rest) = false
no_node (comment s rest) = false
no_node (element name attrs kids rest) = false

-- the nodes are one text, of which q holds
unfoldable pub one_text : (Bytes → Bool) → Forest → Bool
one_text q nothing = false
one_text q (text s rest) = q s && no_node rest
one_text q (comment s rest) = false
one_text q (element name attrs kids rest) = false

-- ---- attributes: "The only attributes are `start` on `ol`, `value` on `li`"

-- every attribute has this name
unfoldable pub only : Bytes → List Attr → Bool
only name [] = true
only name (a ∷ more) = same a.name name && only name more

unfoldable pub list_attrs : ℕ → List Attr → Bool
list_attrs name attrs = cond (eqb name tag.ol) (only (ascii "start") attrs) (null attrs)

-- ---- tables

unfoldable pub is_cell : ℕ → Bool
is_cell name = isin name (tag.th ∷ tag.td ∷ [])

unfoldable pub is_row_group : ℕ → Bool
is_row_group name = isin name (tag.thead ∷ tag.tbody ∷ [])

-- what a `tr` holds: cells and nothing else; "`th`, `td` hold one text"
unfoldable pub cells : Forest → Bool
cells nothing = true
cells (text s rest) = false
cells (comment s rest) = false
cells (element name attrs kids rest) =
    ((is_cell (tag_of name) && null attrs) && one_text plain_text kids) && cells rest

unfoldable pub row : ℕ → List Attr → Forest → Bool
row name attrs kids = (eqb name tag.tr && null attrs) && cells kids

-- what a `thead` or `tbody` holds: `tr` and nothing else
unfoldable pub rows : Forest → Bool
rows nothing = true
rows (text s rest) = false
rows (comment s rest) = false
rows (element name attrs kids rest) = row (tag_of name) attrs kids && rows rest

-- what a `table` holds: "`tr`, directly or in `thead` and `tbody`", and nothing else
unfoldable pub table_parts : Forest → Bool
table_parts nothing = true
table_parts (text s rest) = false
table_parts (comment s rest) = false
table_parts (element name attrs kids rest) =
    cond (is_row_group (tag_of name)) (null attrs && rows kids) (row (tag_of name) attrs kids) && table_parts rest

unfoldable pub count_nodes : Forest → ℕ
count_nodes nothing = 0
count_nodes (text s rest) = suc (count_nodes rest)
count_nodes (comment s rest) = suc (count_nodes rest)
count_nodes (element name attrs kids rest) = suc (count_nodes rest)

-- what each `tr` holds, in document order
unfoldable pub rows_of : Forest → List Forest
rows_of nothing = []
rows_of (text s rest) = rows_of rest
rows_of (comment s rest) = rows_of rest
rows_of (element name attrs kids rest) =
    cond (eqb (tag_of name) tag.tr) (kids ∷ []) (rows_of kids) ++ rows_of rest

-- each row has n cells
unfoldable pub all_have : ℕ → List Forest → Bool
all_have n [] = true
all_have n (r ∷ rs) = eqb (count_nodes r) n && all_have n rs

-- "one or more `tr`", "and every `tr` the same number of cells (`th` or `td`), at least one"
unfoldable pub equal_rows : List Forest → Bool
equal_rows [] = false
equal_rows (r ∷ rs) = leb 1 (count_nodes r) && all_have (count_nodes r) rs

unfoldable pub plain_table : Forest → Bool
plain_table kids = table_parts kids && equal_rows (rows_of kids)

-- ---- lists

unfoldable pub is_list_name : ℕ → Bool
is_list_name name = isin name (tag.ul ∷ tag.ol ∷ [])

-- "no item's number, counted on from the one before it, would pass 999,999,999": `due` is due to the item, and `value` is its
-- own number
unfoldable pub counts_on : Option ℕ → Option ℕ → Bool
counts_on none value = true
counts_on (some n) none = leb n largest_number
counts_on (some n) (some m) = true

unfoldable mutual
  -- what a list holds from an item on to which `due` is due: "`li` and nothing else"
  pub items : Forest → Option ℕ → Bool
  items nothing due = true
  items (text s rest) due = false
  items (comment s rest) due = false
  items (element name attrs kids rest) due =
      ((eqb (tag_of name) tag.li && only (ascii "value") attrs) && (counts_on due (item_value attrs) && item_content kids))
      && items rest (next_due (item_number due attrs))

  -- "an `li` holds one text and then any number of lists"
  pub item_content : Forest → Bool
  item_content nothing = false
  item_content (text s rest) = plain_text s && lists rest
  item_content (comment s rest) = false
  item_content (element name attrs kids rest) = false

  -- "lists hold at least one `li`"
  pub lists : Forest → Bool
  lists nothing = true
  lists (text s rest) = false
  lists (comment s rest) = false
  lists (element name attrs kids rest) =
      ((is_list_name (tag_of name) && list_attrs (tag_of name) attrs) && (not (no_node kids) && items kids (first_due (tag_of name) attrs)))
      && lists rest

-- ---- blocks

unfoldable pub is_wrapper : ℕ → Bool
is_wrapper name = isin name (tag.div ∷ tag.section ∷ tag.article ∷ [])

unfoldable pub holds_text : ℕ → Bool
holds_text name = isin name (tag.p ∷ tag.h1 ∷ tag.h2 ∷ tag.h3 ∷ tag.h4 ∷ tag.h5 ∷ tag.h6 ∷ [])

-- a block that is neither a list nor a wrapper: "`p`, `h1` to `h6`, `hr` with nothing inside", "`table`, `pre`"; "`p`,
-- headings" "hold one text"
unfoldable pub leaf : ℕ → Forest → Bool
leaf name kids =
    cond (holds_text name) (one_text plain_text kids)
    (cond (eqb name tag.hr) (no_node kids)
    (cond (eqb name tag.pre) (one_text fixed_text kids)
    (cond (eqb name tag.table) (plain_table kids) false)))

-- a block that is no wrapper
unfoldable pub block : Bytes → List Attr → Forest → Bool
block name attrs kids =
    cond (is_list_name (tag_of name)) (lists (element name attrs kids nothing)) (null attrs && leaf (tag_of name) kids)

-- "blocks and nothing else"; "also `div`, `section`, `article` holding only blocks"
unfoldable pub blocks : Forest → Bool
blocks nothing = true
blocks (text s rest) = false
blocks (comment s rest) = false
blocks (element name attrs kids rest) =
    cond (is_wrapper (tag_of name)) (null attrs && blocks kids) (block name attrs kids) && blocks rest

-- "A plain sheet holds blocks and nothing else."
unfoldable pub plain : Forest → Bool
plain tree = blocks tree
