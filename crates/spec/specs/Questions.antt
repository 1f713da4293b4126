-- Questions 1 to 9 (document 01, "The ten questions"), each a test of its own; `true` is yes.
use Rattle.std.specs.Prelude.{ℕ, suc, ◌-◌, ◌*◌, Bool, true, false, cond, not, ◌&&◌, List, [], ◌∷◌, length, eqb, leb, ltb}
use Rattle.spec.specs.Bytes.{Bytes, ascii, null, same, isin}
use Rattle.spec.specs.Utf8.{is_utf8}
use Rattle.spec.specs.Fields.{Field, whole, fields}

unfoldable pub every_field : (Field → Bool) → List Field → Bool
every_field p [] = true
every_field p (f ∷ fs) = p f && every_field p fs

-- 1: Is the sheet at most 1,048,576 bytes?
unfoldable pub question1 : Bytes → Bool
question1 sheet = leb (length sheet) 1048576

-- 2: Does every field end inside it, with a tag from 1 to 6?
unfoldable pub question2 : Bytes → Bool
question2 sheet = whole 1 6 sheet

-- ---- 3

-- "Field 2 stands after a field 1 or 3 and is followed by a 3; a 3 stands only after a 2." `before` is the tag of the
-- field in front, 0 for the first
unfoldable pub may_follow : ℕ → ℕ → Bool
may_follow before tag =
    cond (eqb tag 2) (isin before (1 ∷ 3 ∷ [])) (cond (eqb tag 3) (eqb before 2) (not (eqb before 2)))

-- "Names hold at least one byte, a close none."
unfoldable pub right_length : Field → Bool
right_length f = cond (isin f.tag (1 ∷ 2 ∷ [])) (not (null f.body)) (cond (eqb f.tag 6) (null f.body) true)

-- how many elements are open behind a field with `depth` open before it
unfoldable pub open_after : ℕ → ℕ → ℕ
open_after depth tag = cond (eqb tag 1) (suc depth) (cond (eqb tag 6) (depth - 1) depth)

-- a close stands where an element is open
unfoldable pub no_stray : ℕ → ℕ → Bool
no_stray depth tag = not (eqb tag 6 && eqb depth 0)

-- the fields keep the rules, without a stray close, behind a field of tag `before` and with `depth` elements open
unfoldable pub keep_rules : ℕ → ℕ → List Field → Bool
keep_rules before depth [] = not (eqb before 2)
keep_rules before depth (f ∷ fs) =
    (may_follow before f.tag && right_length f) && (no_stray depth f.tag && keep_rules f.tag (open_after depth f.tag) fs)

-- how many elements are open behind the fields
unfoldable pub still_open : ℕ → List Field → ℕ
still_open depth [] = depth
still_open depth (f ∷ fs) = still_open (open_after depth f.tag) fs

-- 3: Do the fields keep the rules above, with every element closed and no stray close?
unfoldable pub question3 : Bytes → Bool
question3 sheet = let fs = fields sheet in keep_rules 0 0 fs && eqb (still_open 0 fs) 0

-- ---- 4

unfoldable pub utf8_body : Field → Bool
utf8_body f = is_utf8 f.body

-- 4: Are all names, values, texts and comments UTF-8?
unfoldable pub question4 : Bytes → Bool
question4 sheet = every_field utf8_body (fields sheet)

-- ---- 5

-- how many nodes the fields begin
unfoldable pub nodes_in : List Field → ℕ
nodes_in [] = 0
nodes_in (f ∷ fs) = cond (isin f.tag (1 ∷ 4 ∷ 5 ∷ [])) (suc (nodes_in fs)) (nodes_in fs)

-- the nodes of a sheet, fragment included
unfoldable pub node_count : Bytes → ℕ
node_count sheet = suc (nodes_in (fields sheet))

unfoldable pub max_open : ℕ
max_open = 100

-- with `depth` elements open before the fields, never more than `max_open` are open
unfoldable pub shallow : ℕ → List Field → Bool
shallow depth [] = leb depth max_open
shallow depth (f ∷ fs) = leb depth max_open && shallow (open_after depth f.tag) fs

-- 5: Are there at most 65,535 nodes, fragment included, and never over 100 elements open?
unfoldable pub question5 : Bytes → Bool
question5 sheet = leb (node_count sheet) 65535 && shallow 0 (fields sheet)

-- ---- 6

unfoldable pub no_blockquote : Field → Bool
no_blockquote f = not (eqb f.tag 1 && same f.body (ascii "blockquote"))

-- 6: Is no element named `blockquote`, skipped parts included?
unfoldable pub question6 : Bytes → Bool
question6 sheet = every_field no_blockquote (fields sheet)

-- 7: Is the start number that of a node?
unfoldable pub question7 : Bytes → ℕ → Bool
question7 sheet start = ltb start (node_count sheet)

-- ---- 8

-- "The skip list is either the default or a run of fields with tag 7, one element name each"
pub data SkipList : Type 0 where
  standard : SkipList
  own : Bytes → SkipList

unfoldable pub skip_name : Field → Bool
skip_name f = (leb 1 (length f.body) && leb (length f.body) 64) && is_utf8 f.body

-- 8: Is the skip list the default, or at most 16 whole tag-7 fields of 1 to 64 UTF-8 bytes each?
unfoldable pub question8 : SkipList → Bool
question8 standard = true
question8 (own run) = whole 7 7 run && (leb (length (fields run)) 16 && every_field skip_name (fields run))

-- 9: Has the node memory at least 64 bytes for each node?
unfoldable pub question9 : Bytes → ℕ → Bool
question9 sheet nodeMemory = leb (node_count sheet * 64) nodeMemory

-- "Put in this order; the first no ends the call with its number": that number, counted from n, or 0
unfoldable pub first_no : ℕ → List Bool → ℕ
first_no n [] = 0
first_no n (true ∷ answers) = first_no (suc n) answers
first_no n (false ∷ answers) = n

-- the number of the question among 1 to 9 that says no first, or 0
unfoldable pub refusal : Bytes → SkipList → ℕ → ℕ → ℕ
refusal sheet skips start nodeMemory =
    first_no 1
    (question1 sheet ∷ question2 sheet ∷ question3 sheet ∷ question4 sheet ∷ question5 sheet ∷ question6 sheet
    ∷ question7 sheet start ∷ question8 skips ∷ question9 sheet nodeMemory ∷ [])
