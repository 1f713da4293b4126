-- The sheet's list (document 01, "Plain sheets and their reading"), from the tree alone.
use Rattle.std.specs.Prelude.{ℕ, suc, ◌-◌, Bool, true, cond, ◌&&◌, ◌||◌, List, [], ◌∷◌, ◌++◌, map, eqb, leb}
use Rattle.std.proofs.Math.Option.{Option, none, some}
use Rattle.spec.specs.Bytes.{Bytes, ascii, null, ends_with, words}
use Rattle.spec.specs.Names as tag
use Rattle.spec.specs.Names.{tag_of}
use Rattle.spec.specs.Tree.{Attr, Forest, nothing, text, comment, element}
use Rattle.spec.specs.Entries as entry
use Rattle.spec.specs.Entries.{Piece, word, Entry}
use Rattle.spec.specs.ListNumber.{first_due, item_number, next_due}
use Rattle.spec.specs.Plain.{is_list_name, rows_of}

-- the text that stands first among the nodes
unfoldable pub first_text : Forest → Bytes
first_text nothing = []
first_text (text s rest) = s
first_text (comment s rest) = []
first_text (element name attrs kids rest) = []

-- "Words part at white bytes."
unfoldable pub words_of : Forest → List Piece
words_of kids = map word (words (first_text kids))

-- "one not empty gains a final LF if it had none"
unfoldable pub with_final_lf : Bytes → Bytes
with_final_lf s = cond (null s || ends_with (ascii "\n") s) s (s ++ ascii "\n")

-- ---- tables

-- "each cell by its words"
unfoldable pub cells_of : Forest → List (List Piece)
cells_of nothing = []
cells_of (text s rest) = cells_of rest
cells_of (comment s rest) = cells_of rest
cells_of (element name attrs kids rest) = words_of kids ∷ cells_of rest

-- all cells are `th`
unfoldable pub all_th : Forest → Bool
all_th nothing = true
all_th (text s rest) = all_th rest
all_th (comment s rest) = all_th rest
all_th (element name attrs kids rest) = eqb (tag_of name) tag.th && all_th rest

-- "A `table` gives its headings (the first row, if all its cells are `th`) or none, then its other rows"
unfoldable pub table_entry : List Forest → Entry
table_entry [] = entry.table none []
table_entry (row ∷ rows) =
    cond (all_th row) (entry.table (some (cells_of row)) (map cells_of rows)) (entry.table none (map cells_of (row ∷ rows)))

-- ---- the list

-- `h1` to `h6` have numbers that follow one another
unfoldable pub is_heading_name : ℕ → Bool
is_heading_name name = leb tag.h1 name && leb name tag.h6

-- what an element gives by itself, before what it holds, where it stands in `depth` lists and `due` is due to it (ListNumber.antt):
-- "`hr` gives a rule, a heading its level and words, `p` its words. `pre` gives its text as fixed text". "An `li` gives its depth
-- (how many lists it stands in), its number and its words." "Wrappers and list boundaries give nothing."
unfoldable pub own : ℕ → ℕ → Option ℕ → List Attr → Forest → List Entry
own name depth due attrs kids =
    cond (eqb name tag.li) (entry.item depth (item_number due attrs) (words_of kids) ∷ [])
    (cond (eqb name tag.hr) (entry.rule ∷ [])
    (cond (is_heading_name name) (entry.heading (suc (name - tag.h1)) (words_of kids) ∷ [])
    (cond (eqb name tag.p) (entry.paragraph (words_of kids) ∷ [])
    (cond (eqb name tag.pre) (entry.fixed (with_final_lf (first_text kids)) ∷ [])
    (cond (eqb name tag.table) (table_entry (rows_of kids) ∷ []) [])))))

-- in how many lists the children of an element stand
unfoldable pub depth_inside : ℕ → ℕ → ℕ
depth_inside name depth = cond (is_list_name name) (suc depth) depth

-- what is due behind an element
unfoldable pub due_behind : ℕ → Option ℕ → List Attr → Option ℕ
due_behind name due attrs = cond (eqb name tag.li) (next_due (item_number due attrs)) due

-- "The sheet's list goes through the tree in document order."
unfoldable pub entries : ℕ → Option ℕ → Forest → List Entry
entries depth due nothing = []
entries depth due (text s rest) = entries depth due rest
entries depth due (comment s rest) = entries depth due rest
entries depth due (element name attrs kids rest) =
    own (tag_of name) depth due attrs kids
    ++ (entries (depth_inside (tag_of name) depth) (first_due (tag_of name) attrs) kids
    ++ entries depth (due_behind (tag_of name) due attrs) rest)

unfoldable pub sheet_list : Forest → List Entry
sheet_list tree = entries 0 none tree
