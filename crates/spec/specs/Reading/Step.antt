-- One line of the reading (CommonMark 0.31, sections 4 and 5; GitHub Flavored Markdown, section 4.10).
use Rattle.std.specs.Prelude.{ℕ, zero, suc, ◌+◌, ◌-◌, Bool, true, false, cond, not, ◌&&◌, ◌||◌, List, [], ◌∷◌, ◌++◌, length, leb}
use Rattle.std.proofs.Math.Option.{Option}
use Rattle.spec.specs.Bytes.{Bytes, null}
use Rattle.spec.specs.Entries.{Entry, rule, heading, foreign}
use Rattle.spec.specs.Reading.Lines.{blank_line, column, strip, unindent}
use Rattle.spec.specs.Reading.Inline.{inline}
use Rattle.spec.specs.Reading.Html.{ends_html}
use Rattle.spec.specs.Reading.Starts.{
  Start,
  text_start,
  rule_start,
  quote_start,
  underline_start,
  heading_start,
  html_start,
  fence_start,
  item_start,
  start_in,
  closing_fence,
}
use Rattle.spec.specs.Reading.Tables.{row}
use Rattle.spec.specs.Reading.Held.{
  Role,
  free_role,
  item_role,
  inner_role,
  Leaf,
  no_leaf,
  text_leaf,
  table_leaf,
  fence_leaf,
  html_leaf,
  code_leaf,
  quote_leaf,
  State,
  state,
  entry_if,
  empty_item,
  closed,
  is_paragraph,
  is_fresh,
  is_raw,
  is_table,
  is_code,
  is_quote,
  add_line,
  heading_row,
  opens_table,
  above,
  tried_before,
}

-- ---- the open items

-- document 01: "A line first goes on with the open items that its blanks allow." Its first byte that is no blank stands at column
-- i; an item goes on whose content column it reaches
unfoldable pub kept : ℕ → List ℕ → List ℕ
kept i [] = []
kept i (c ∷ cs) = cond (leb c i) (c ∷ kept i cs) []

unfoldable pub all_kept : ℕ → List ℕ → Bool
all_kept i [] = true
all_kept i (c ∷ cs) = leb c i && all_kept i cs

-- the content column of the innermost item, or b
unfoldable pub base : ℕ → List ℕ → ℕ
base b [] = b
base b (c ∷ cs) = base c cs

unfoldable pub without_innermost : List ℕ → List ℕ
without_innermost [] = []
without_innermost (c ∷ cs) = cond (null cs) [] (c ∷ without_innermost cs)

-- a leaf in an item is foreign, unless it is the paragraph that begins the item
unfoldable pub alone : List ℕ → Entry → Entry
alone ks e = entry_if (null ks) e

unfoldable pub role_in : List ℕ → Role
role_in [] = free_role
role_in (c ∷ cs) = inner_role

-- 5.2: "a list marker of width W followed by 1 ≤ N ≤ 4 spaces of indentation"; the content stands W + N columns behind the marker's
-- beginning. If it is indented code, and if it begins with a blank line, that is W + 1. m: the column behind the marker; i: the
-- column of the first byte that is no blank
unfoldable pub content_column : ℕ → ℕ → ℕ
content_column m i = cond (leb i (m + 4)) i (suc m)

-- ---- a line that goes on with a leaf, or begins one

-- A line is given by: do all open items go on; the columns of those that do; the column of its first byte that is no blank; its
-- bytes from there. Then comes the state, taken apart
abbrev pub Line : Type 0
Line = Bool → List ℕ → ℕ → Bytes → List Entry → List ℕ → Leaf → State

-- 4.4: "An indented chunk is a sequence of non-blank lines, each preceded by four or more spaces of indentation." "An indented
-- code block cannot interrupt a paragraph." The first argument: does the line belong to the leaf
unfoldable pub indented : Bool → List ℕ → Bytes → List Entry → List ℕ → Leaf → State
indented true ks r o op lf = state o op (add_line lf r)
indented false ks r o op lf = state (o ++ closed lf) ks code_leaf

unfoldable pub indented_line : Line
indented_line w ks i r o op lf = indented (is_paragraph lf || (is_quote lf || (w && is_code lf))) ks r o op lf

-- Text. The arguments: is it a table's delimiter row; does it belong to the leaf. 4.8: "A sequence of non-blank lines that cannot
-- be interpreted as other kinds of blocks forms a paragraph." GFM 4.10: "The table is broken at the first empty line, or beginning
-- of another block-level structure"
unfoldable pub text_by : Bool → Bool → List ℕ → Bytes → List Entry → List ℕ → Leaf → State
text_by true g ks r o op lf = state (o ++ above lf) ks (table_leaf (not (null ks) || tried_before lf) (heading_row lf) [])
text_by false true ks r o op lf = state o op (add_line lf r)
text_by false false ks r o op lf = state (o ++ closed lf) ks (text_leaf (role_in ks) r)

-- A paragraph goes on also where not all its items do. 5.2, laziness: "the result of deleting some or all of the indentation from
-- one or more lines in which the next character other than a space or tab after the indentation is paragraph continuation text is
-- a list item with the same contents and attributes." An item that has nothing yet begins with the text; a table has one more row
unfoldable pub goes_on : Bool → Bytes → Leaf → Bool
goes_on w r lf = is_paragraph lf || ((w && (is_fresh lf || (is_table lf && not (null (row r))))) || is_quote lf)

unfoldable pub text_line : Line
text_line w ks i r o op lf = text_by ((w && is_paragraph lf) && opens_table lf r) (goes_on w r lf) ks r o op lf

-- a block that is one line
unfoldable pub one_line : Entry → List ℕ → List Entry → Leaf → State
one_line e ks o lf = state (o ++ (closed lf ++ (alone ks e ∷ []))) ks no_leaf

-- a paragraph that turns out to be a heading
unfoldable pub underlined : List ℕ → List Entry → Leaf → State
underlined ks o no_leaf = state o ks no_leaf
underlined ks o (text_leaf k t) = state (o ++ (empty_item k ++ (foreign ∷ []))) ks no_leaf
underlined ks o (table_leaf f hs rs) = state o ks no_leaf
underlined ks o (fence_leaf f c n i t) = state o ks no_leaf
underlined ks o (html_leaf k) = state o ks no_leaf
underlined ks o code_leaf = state o ks no_leaf
underlined ks o quote_leaf = state o ks no_leaf

-- a block quote is foreign, and its blocks are not looked at: it goes on with its marker or with text
unfoldable pub quoted : Bool → List ℕ → List Entry → List ℕ → Leaf → State
quoted true ks o op lf = state o op lf
quoted false ks o op lf = state (o ++ closed lf) ks quote_leaf

-- 4.6: the line that begins an HTML block may end it too
unfoldable pub html_line : Bool → ℕ → List ℕ → List Entry → Leaf → State
html_line true k ks o lf = state (o ++ (closed lf ++ (foreign ∷ []))) ks no_leaf
html_line false k ks o lf = state (o ++ closed lf) ks (html_leaf k)

-- document 01: "an item's depth is the number of items then open, its number the one written before it; a bullet has none". What
-- stands behind the marker is a line of its own, in the item
unfoldable pub opened : Line → ℕ → Bytes → List ℕ → List Entry → Leaf → State
opened go c r ks o lf = go true ks c r o ks lf

unfoldable pub item_line : Bool → Line → Option ℕ → ℕ → Bytes → List ℕ → List Entry → Leaf → State
item_line true go n m r ks o lf = state (o ++ closed lf) (ks ++ (suc m ∷ [])) (text_leaf (item_role (suc (length ks)) n) [])
item_line false go n m r ks o lf =
    opened go (column m r) (strip r) (ks ++ (content_column m (column m r) ∷ [])) (o ++ closed lf)
    (text_leaf (item_role (suc (length ks)) n) [])

unfoldable pub line_by : Line → Start → Line
line_by go text_start w ks i r o op lf = text_line w ks i r o op lf
line_by go rule_start w ks i r o op lf = one_line rule ks o lf
line_by go quote_start w ks i r o op lf = quoted (w && is_quote lf) ks o op lf
line_by go underline_start w ks i r o op lf = underlined ks o lf
line_by go (heading_start n t) w ks i r o op lf = one_line (heading n (inline t)) ks o lf
line_by go (html_start k) w ks i r o op lf = html_line (ends_html k r) k ks o lf
line_by go (fence_start c n t) w ks i r o op lf =
    state (o ++ closed lf) ks (fence_leaf (not (null ks && blank_line t)) c n (i - base 0 ks) [])
line_by go (item_start n m t) w ks i r o op lf = item_line (blank_line t) go n (i + m) t ks o lf

-- 4.4: a line with four or more spaces of indentation begins nothing but code
unfoldable pub line_in : Bool → Line → Line
line_in true go w ks i r o op lf = indented_line w ks i r o op lf
line_in false go w ks i r o op lf = line_by go (start_in (w && is_paragraph lf) r) w ks i r o op lf

-- each item that opens on the line takes one of the first argument; a line cannot have more than its bytes
unfoldable pub line : ℕ → Line
line zero w ks i r o op lf = state o op lf
line (suc f) w ks i r o op lf = line_in (leb (base 0 ks + 4) i) (line f) w ks i r o op lf

-- ---- blank lines, and the lines of a fence or an HTML block

-- 5.2: "A list item can begin with at most one blank line."
unfoldable pub blank_step : List Entry → List ℕ → Leaf → State
blank_step o op lf = state (o ++ closed lf) (cond (is_fresh lf) (without_innermost op) op) no_leaf

unfoldable pub leaf_step : Bool → Bytes → List Entry → List ℕ → Leaf → State
leaf_step true l o op lf = blank_step o op lf
leaf_step false l o op lf = line (suc (length l)) (all_kept (column 0 l) op) (kept (column 0 l) op) (column 0 l) (strip l) o op lf

-- The arguments: does the line end the leaf; what it adds
unfoldable pub raw_line : Bool → Bytes → List Entry → List ℕ → Leaf → State
raw_line true r o op lf = state (o ++ closed lf) op no_leaf
raw_line false r o op lf = state o op (add_line lf r)

-- 4.5: "The closing code fence may be preceded by up to three spaces of indentation, and may be followed only by spaces or tabs"
unfoldable pub raw_step : Bytes → List Entry → List ℕ → Leaf → State
raw_step l o op no_leaf = state o op no_leaf
raw_step l o op (text_leaf k t) = state o op (text_leaf k t)
raw_step l o op (table_leaf f hs rs) = state o op (table_leaf f hs rs)
raw_step l o op (fence_leaf f c n i t) =
    raw_line (leb (column 0 l) (base 0 op + 3) && closing_fence c n (strip l)) (unindent (base 0 op + i) 0 l) o op
    (fence_leaf f c n i t)
raw_step l o op (html_leaf k) = raw_line (ends_html k l) l o op (html_leaf k)
raw_step l o op code_leaf = state o op code_leaf
raw_step l o op quote_leaf = state o op quote_leaf

unfoldable pub step_by : Bool → Bytes → List Entry → List ℕ → Leaf → State
step_by true l o op lf = raw_step l o op lf
step_by false l o op lf = leaf_step (blank_line l) l o op lf

-- a blank line goes on with all open items
unfoldable pub step : State → Bytes → State
step (state o op lf) l = step_by (is_raw lf && (blank_line l || all_kept (column 0 l) op)) l o op lf
