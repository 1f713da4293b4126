-- The closed form: the lines of a plain sheet's text, from the tree alone, without texts that grow and trims.
--
-- The writer's definition gives this text, and the reading of this text is the sheet's list: the two halves of demand 3 meet here.
use Rattle.std.specs.Prelude.{ℕ, suc, ◌+◌, ◌-◌, max, min, Bool, true, false, cond, ◌&&◌, List, [], ◌∷◌, ◌++◌, map, length, replicate, eqb}
use Rattle.std.proofs.Math.Option.{Option, none, some}
use Rattle.spec.specs.Bytes.{Bytes, ascii, null, every, words, decimal, join}
use Rattle.spec.specs.Names as tag
use Rattle.spec.specs.Names.{tag_of}
use Rattle.spec.specs.Tree.{Attr, Forest, nothing, text, comment, element}
use Rattle.spec.specs.ListNumber.{largest_number, first_due, item_number, next_due}
use Rattle.spec.specs.Plain.{count_nodes, rows_of, is_list_name, is_wrapper}
use Rattle.spec.specs.SheetList.{first_text, all_th, is_heading_name}
use Rattle.spec.specs.Md.TextUtils.{escaped_chunk, more_words}
use Rattle.spec.specs.Md.Elements.Code.{max_backtick_run}

-- ---- words

-- the words of a paragraph, an item or a cell: the first of them stands at the beginning of a line
unfoldable pub phrase : List Bytes → Bytes
phrase [] = []
phrase (w ∷ ws) = escaped_chunk w true true ++ more_words true ws

unfoldable pub hash : ℕ → Bool
hash b = eqb b 35

-- a word of a heading; `closing`: it is the last, and of # alone, so that it would close the heading
unfoldable pub heading_word : Bool → Bytes → Bytes
heading_word true w = 92 ∷ w
heading_word false w = escaped_chunk w true false

-- the words of a heading, a blank before each
unfoldable pub heading_words : List Bytes → Bytes
heading_words [] = []
heading_words (w ∷ ws) = 32 ∷ (heading_word (null ws && every hash w) w ++ heading_words ws)

-- ---- leaves, by their lines

unfoldable pub heading_line : ℕ → List Bytes → Bytes
heading_line level ws = replicate level 35 ++ heading_words ws

-- the lines of a fixed text: behind its last LF no line begins
unfoldable pub fixed_byte : Bool → ℕ → List Bytes → List Bytes
fixed_byte true b ls = [] ∷ ls
fixed_byte false b [] = (b ∷ []) ∷ []
fixed_byte false b (l ∷ ls) = (b ∷ l) ∷ ls

unfoldable pub fixed_lines : Bytes → List Bytes
fixed_lines [] = []
fixed_lines (b ∷ s) = fixed_byte (eqb b 10) b (fixed_lines s)

-- document 01: "Fence: longest backtick run, at least 2, plus 1."
unfoldable pub fence_of : Bytes → Bytes
fence_of s = replicate (suc (max (max_backtick_run s) 2)) 96

unfoldable pub fenced_lines : Bytes → List Bytes
fenced_lines s = fence_of s ∷ (fixed_lines s ++ (fence_of s ∷ []))

-- ---- tables

-- what the cells of a row hold
unfoldable pub cell_phrases : Forest → List Bytes
cell_phrases nothing = []
cell_phrases (text s rest) = cell_phrases rest
cell_phrases (comment s rest) = cell_phrases rest
cell_phrases (element name attrs kids rest) = phrase (words (first_text kids)) ∷ cell_phrases rest

-- the cells behind a pipe: each between blanks, with a pipe behind it
unfoldable pub row_tail : List Bytes → Bytes
row_tail [] = []
row_tail (c ∷ cs) = 32 ∷ (c ++ (32 ∷ 124 ∷ row_tail cs))

unfoldable pub row_line : List Bytes → Bytes
row_line cs = 124 ∷ row_tail cs

-- as many hyphens as the heading has bytes, and one at least
unfoldable pub hyphens : Bytes → Bytes
hyphens c = replicate (max (length c) 1) 45

unfoldable pub data_lines : List Forest → List Bytes
data_lines [] = []
data_lines (row ∷ rows) = row_line (cell_phrases row) ∷ data_lines rows

unfoldable pub under_headings : List Bytes → List Forest → List Bytes
under_headings headings rows = row_line headings ∷ row_line (map hyphens headings) ∷ data_lines rows

unfoldable pub blank_headings : Forest → List Bytes
blank_headings row = replicate (count_nodes row) (32 ∷ [])

unfoldable pub table_by : Bool → Forest → List Forest → List Bytes
table_by true row rows = under_headings (cell_phrases row) rows
table_by false row rows = under_headings (blank_headings row) (row ∷ rows)

-- document 01: "The first row having cells is the heading only if all its cells are `th`."
unfoldable pub table_lines : List Forest → List Bytes
table_lines [] = []
table_lines (row ∷ rows) = table_by (all_th row) row rows

-- ---- lists

-- what stands before the words of an item with that number, or of a bullet
unfoldable pub marker : Option ℕ → Bytes
marker none = 45 ∷ 32 ∷ []
marker (some n) = decimal n ++ (46 ∷ 32 ∷ [])

-- how much farther in its lists stand. Document 01: "A bullet list steps 4; a numbered one max(digits + 2, 4)"; "The step for an
-- item's children uses the number after it.", which is never above the largest
unfoldable pub deeper : Option ℕ → ℕ
deeper none = 4
deeper (some n) = max (length (decimal (min (suc n) largest_number)) + 2) 4

unfoldable pub item_line : ℕ → Option ℕ → List Bytes → Bytes
item_line indent number ws = replicate indent 32 ++ (marker number ++ phrase ws)

-- an item with that number can interrupt a paragraph
unfoldable pub interrupts : Option ℕ → Bool
interrupts none = true
interrupts (some n) = eqb n 1

-- so can a list whose first item does; `due` is due to it
unfoldable pub list_interrupts : Option ℕ → Forest → Bool
list_interrupts due nothing = false
list_interrupts due (text s rest) = false
list_interrupts due (comment s rest) = false
list_interrupts due (element name attrs kids rest) = interrupts (item_number due attrs)

-- a blank line, unless the lines stand close
unfoldable pub spaced : Bool → List Bytes → List Bytes
spaced true ls = ls
spaced false ls = [] ∷ ls

unfoldable mutual
  -- the items of a list behind so many blanks, from the one on to which `due` is due
  pub items_lines : Forest → ℕ → Option ℕ → List Bytes
  items_lines nothing indent due = []
  items_lines (text s rest) indent due = []
  items_lines (comment s rest) indent due = []
  items_lines (element name attrs kids rest) indent due =
      content_lines kids indent (item_number due attrs) ++ items_lines rest indent (next_due (item_number due attrs))

  -- what an item with that number holds: its words, and then its lists
  pub content_lines : Forest → ℕ → Option ℕ → List Bytes
  content_lines nothing indent number = []
  content_lines (text s rest) indent number =
      item_line indent number (words s) ∷ lists_lines rest (indent + deeper number) true
  content_lines (comment s rest) indent number = []
  content_lines (element name attrs kids rest) indent number = []

  -- the lists of an item; `first`: the item's words stand just before them
  pub lists_lines : Forest → ℕ → Bool → List Bytes
  lists_lines nothing indent first = []
  lists_lines (text s rest) indent first = []
  lists_lines (comment s rest) indent first = []
  lists_lines (element name attrs kids rest) indent first =
      spaced (first && list_interrupts (first_due (tag_of name) attrs) kids)
      (items_lines kids indent (first_due (tag_of name) attrs) ++ lists_lines rest indent false)

-- ---- blocks

unfoldable pub leaf_lines : ℕ → Forest → List Bytes
leaf_lines name kids =
    cond (eqb name tag.hr) (ascii "---" ∷ [])
    (cond (is_heading_name name) (heading_line (suc (name - tag.h1)) (words (first_text kids)) ∷ [])
    (cond (eqb name tag.p) (phrase (words (first_text kids)) ∷ [])
    (cond (eqb name tag.pre) (fenced_lines (first_text kids))
    (cond (eqb name tag.table) (table_lines (rows_of kids)) []))))

unfoldable pub own_lines : ℕ → List Attr → Forest → List Bytes
own_lines name attrs kids = cond (is_list_name name) (items_lines kids 0 (first_due name attrs)) (leaf_lines name kids)

-- one blank line before a block, two before a table
unfoldable pub block_lines : ℕ → List Attr → Forest → List Bytes
block_lines name attrs kids = [] ∷ cond (eqb name tag.table) ([] ∷ own_lines name attrs kids) (own_lines name attrs kids)

unfoldable pub sheet_lines : Forest → List Bytes
sheet_lines nothing = []
sheet_lines (text s rest) = sheet_lines rest
sheet_lines (comment s rest) = sheet_lines rest
sheet_lines (element name attrs kids rest) =
    cond (is_wrapper (tag_of name)) (sheet_lines kids) (block_lines (tag_of name) attrs kids) ++ sheet_lines rest

-- the lines from the first that is not empty
unfoldable pub from_first : List Bytes → List Bytes
from_first [] = []
from_first (l ∷ ls) = cond (null l) (from_first ls) (l ∷ ls)

unfoldable pub closed_form : Forest → Bytes
closed_form tree = join (ascii "\n") (from_first (sheet_lines tree))
