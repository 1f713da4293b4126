-- What the reading holds between two lines: the blocks so far, the content columns of the open items, the open leaf; and what a
-- leaf gives when it closes.
use Rattle.std.specs.Prelude.{ℕ, Bool, true, false, cond, not, ◌&&◌, ◌||◌, List, [], ◌∷◌, ◌++◌, map, length, eqb}
use Rattle.std.proofs.Math.Option.{Option, none, some}
use Rattle.spec.specs.Bytes.{Bytes, null, split, join}
use Rattle.spec.specs.Entries.{Piece, Entry, paragraph, fixed, item, table, foreign}
use Rattle.spec.specs.Reading.Inline.{inline}
use Rattle.spec.specs.Reading.Tables.{row, delimiter_row, fit}
use Rattle.spec.specs.Reading.Definitions.{definition}

-- where a paragraph stands: outside all items; at the beginning of an item, with its depth and number; elsewhere in an item
pub data Role : Type 0 where
  free_role : Role
  item_role : ℕ → Option ℕ → Role
  inner_role : Role

-- Text: a paragraph's lines so far, without the blanks that begin them, joined by LF; an item that has nothing yet has the empty
-- text. A table: is it foreign, the cells of its heading row, those of its other rows. A fence: is it foreign, its byte, its
-- length, its indentation, the content so far. HTML: the kind
pub data Leaf : Type 0 where
  no_leaf : Leaf
  text_leaf : Role → Bytes → Leaf
  table_leaf : Bool → List Bytes → List (List Bytes) → Leaf
  fence_leaf : Bool → ℕ → ℕ → ℕ → Bytes → Leaf
  html_leaf : ℕ → Leaf
  code_leaf : Leaf
  quote_leaf : Leaf

-- the columns are counted from the beginning of the line, from the outermost item to the innermost
pub data State : Type 0 where
  state : List Entry → List ℕ → Leaf → State

-- ---- what a leaf gives

unfoldable pub entry_if : Bool → Entry → Entry
entry_if true e = e
entry_if false e = foreign

-- an item that no paragraph begins has no words
unfoldable pub empty_item : Role → List Entry
empty_item free_role = []
empty_item (item_role d n) = item d n [] ∷ []
empty_item inner_role = []

unfoldable pub text_entries : Bool → Role → Bytes → List Entry
text_entries true k t = empty_item k ++ (foreign ∷ [])
text_entries false free_role t = paragraph (inline t) ∷ []
text_entries false (item_role d n) t = item d n (inline t) ∷ []
text_entries false inner_role t = foreign ∷ []

-- a blank heading row reads as none
unfoldable pub blank_row : List (List Piece) → Bool
blank_row [] = true
blank_row (c ∷ cs) = null c && blank_row cs

unfoldable pub headings : Bool → List (List Piece) → Option (List (List Piece))
headings true cs = none
headings false cs = some cs

unfoldable pub cell_pieces : List Bytes → List (List Piece)
cell_pieces cs = map inline cs

unfoldable pub table_entry : List Bytes → List (List Bytes) → Entry
table_entry hs rs = table (headings (blank_row (cell_pieces hs)) (cell_pieces hs)) (map cell_pieces rs)

unfoldable pub closed : Leaf → List Entry
closed no_leaf = []
closed (text_leaf k t) = text_entries (definition t) k t
closed (table_leaf f hs rs) = entry_if (not f) (table_entry hs rs) ∷ []
closed (fence_leaf f c n i t) = entry_if (not f) (fixed t) ∷ []
closed (html_leaf k) = foreign ∷ []
closed code_leaf = foreign ∷ []
closed quote_leaf = foreign ∷ []

-- ---- questions about the leaf

-- a paragraph is open
unfoldable pub is_paragraph : Leaf → Bool
is_paragraph no_leaf = false
is_paragraph (text_leaf k t) = not (null t)
is_paragraph (table_leaf f hs rs) = false
is_paragraph (fence_leaf f c n i t) = false
is_paragraph (html_leaf k) = false
is_paragraph code_leaf = false
is_paragraph quote_leaf = false

-- an item that has nothing yet
unfoldable pub is_fresh : Leaf → Bool
is_fresh no_leaf = false
is_fresh (text_leaf k t) = null t
is_fresh (table_leaf f hs rs) = false
is_fresh (fence_leaf f c n i t) = false
is_fresh (html_leaf k) = false
is_fresh code_leaf = false
is_fresh quote_leaf = false

-- a fence or an HTML block, whose lines are not looked into
unfoldable pub is_raw : Leaf → Bool
is_raw no_leaf = false
is_raw (text_leaf k t) = false
is_raw (table_leaf f hs rs) = false
is_raw (fence_leaf f c n i t) = true
is_raw (html_leaf k) = true
is_raw code_leaf = false
is_raw quote_leaf = false

unfoldable pub is_table : Leaf → Bool
is_table no_leaf = false
is_table (text_leaf k t) = false
is_table (table_leaf f hs rs) = true
is_table (fence_leaf f c n i t) = false
is_table (html_leaf k) = false
is_table code_leaf = false
is_table quote_leaf = false

unfoldable pub is_code : Leaf → Bool
is_code no_leaf = false
is_code (text_leaf k t) = false
is_code (table_leaf f hs rs) = false
is_code (fence_leaf f c n i t) = false
is_code (html_leaf k) = false
is_code code_leaf = true
is_code quote_leaf = false

unfoldable pub is_quote : Leaf → Bool
is_quote no_leaf = false
is_quote (text_leaf k t) = false
is_quote (table_leaf f hs rs) = false
is_quote (fence_leaf f c n i t) = false
is_quote (html_leaf k) = false
is_quote code_leaf = false
is_quote quote_leaf = true

-- ---- one more line

-- 4.8: "The paragraph's raw content is formed by concatenating the lines and removing initial and final spaces or tabs."
unfoldable pub with_line : Bytes → Bytes → Bytes
with_line t r = cond (null t) r (t ++ (10 ∷ r))

unfoldable pub add_line : Leaf → Bytes → Leaf
add_line no_leaf r = no_leaf
add_line (text_leaf k t) r = text_leaf k (with_line t r)
add_line (table_leaf f hs rs) r = table_leaf f hs (rs ++ (fit (length hs) (row r) ∷ []))
add_line (fence_leaf f c n i t) r = fence_leaf f c n i (t ++ (r ++ (10 ∷ [])))
add_line (html_leaf k) r = html_leaf k
add_line code_leaf r = code_leaf
add_line quote_leaf r = quote_leaf

-- ---- the paragraph above a delimiter row

-- the last of the lines, and the others
unfoldable pub last_line : List Bytes → Bytes
last_line [] = []
last_line (l ∷ ls) = cond (null ls) l (last_line ls)

unfoldable pub other_lines : List Bytes → List Bytes
other_lines [] = []
other_lines (l ∷ ls) = cond (null ls) [] (l ∷ other_lines ls)

unfoldable pub lines_of : Bytes → List Bytes
lines_of t = split (eqb 10) t

-- the cells of the paragraph's last line
unfoldable pub heading_row : Leaf → List Bytes
heading_row no_leaf = []
heading_row (text_leaf k t) = row (last_line (lines_of t))
heading_row (table_leaf f hs rs) = []
heading_row (fence_leaf f c n i t) = []
heading_row (html_leaf k) = []
heading_row code_leaf = []
heading_row quote_leaf = []

-- GFM 4.10: "The header row must match the delimiter row in the number of cells. If not, a table will not be recognized"
unfoldable pub opens_table : Leaf → Bytes → Bool
opens_table lf r = delimiter_row (row r) && eqb (length (heading_row lf)) (length (row r))

-- the lines above the heading row stay a paragraph; without any, an item begins with the table
unfoldable pub above_by : Role → List Bytes → List Entry
above_by k [] = empty_item k
above_by k (l ∷ ls) = closed (text_leaf k (join (10 ∷ []) (l ∷ ls)))

unfoldable pub above : Leaf → List Entry
above no_leaf = []
above (text_leaf k t) = above_by k (other_lines (lines_of t))
above (table_leaf f hs rs) = []
above (fence_leaf f c n i t) = []
above (html_leaf k) = []
above code_leaf = []
above quote_leaf = []

-- A delimiter row stands in the paragraph already, behind a line of another count: then GitHub's reader looks for no table in it any
-- more. The specification does not say so. Wider: the table is foreign
unfoldable pub any_delimiter : List Bytes → Bool
any_delimiter [] = false
any_delimiter (l ∷ ls) = delimiter_row (row l) || any_delimiter ls

unfoldable pub behind_first : List Bytes → List Bytes
behind_first [] = []
behind_first (l ∷ ls) = ls

unfoldable pub tried_before : Leaf → Bool
tried_before no_leaf = false
tried_before (text_leaf k t) = any_delimiter (behind_first (lines_of t))
tried_before (table_leaf f hs rs) = false
tried_before (fence_leaf f c n i t) = false
tried_before (html_leaf k) = false
tried_before code_leaf = false
tried_before quote_leaf = false
