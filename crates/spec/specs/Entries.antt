-- What a sheet's list and the reading of a text consist of (document 01, "Plain sheets and their reading").
use Rattle.std.specs.Prelude.{ℕ, Bool, List, [], ◌∷◌, ◌++◌, length}
use Rattle.std.proofs.Math.Option.{Option, none, some}
use Rattle.spec.specs.Bytes.{Bytes, same}

-- what stands in a leaf: a word, or something else that CommonMark finds there
pub data Piece : Type 0 where
  word : Bytes → Piece
  other : Piece

-- document 01, "fixed text": the content of a code block. An item has its depth, its number or none, and the paragraph that
-- begins it; a table its headings or none, and its rows, each a list of cells. "Foreign" is every block for which the list
-- has no place
pub data Entry : Type 0 where
  rule : Entry
  heading : ℕ → List Piece → Entry
  paragraph : List Piece → Entry
  fixed : Bytes → Entry
  item : ℕ → Option ℕ → List Piece → Entry
  table : Option (List (List Piece)) → List (List (List Piece)) → Entry
  foreign : Entry

-- ---- a test of equality: entries are compared by codes, of which none begins another

unfoldable pub code_each : {A : Type 0} → (A → List ℕ) → List A → List ℕ
code_each f [] = []
code_each f (x ∷ xs) = f x ++ code_each f xs

unfoldable pub code_list : {A : Type 0} → (A → List ℕ) → List A → List ℕ
code_list f xs = length xs ∷ code_each f xs

unfoldable pub code_option : {A : Type 0} → (A → List ℕ) → Option A → List ℕ
code_option f none = 0 ∷ []
code_option f (some x) = 1 ∷ f x

unfoldable pub code_number : ℕ → List ℕ
code_number n = n ∷ []

unfoldable pub code_piece : Piece → List ℕ
code_piece (word s) = 1 ∷ code_list code_number s
code_piece other = 0 ∷ []

unfoldable pub code_words : List Piece → List ℕ
code_words ws = code_list code_piece ws

unfoldable pub code_cells : List (List Piece) → List ℕ
code_cells cs = code_list code_words cs

unfoldable pub code_entry : Entry → List ℕ
code_entry rule = 0 ∷ []
code_entry (heading l ws) = 1 ∷ l ∷ code_words ws
code_entry (paragraph ws) = 2 ∷ code_words ws
code_entry (fixed s) = 3 ∷ code_list code_number s
code_entry (item d n ws) = 4 ∷ d ∷ (code_option code_number n ++ code_words ws)
code_entry (table h rs) = 5 ∷ (code_option code_cells h ++ code_list code_cells rs)
code_entry foreign = 6 ∷ []

unfoldable pub same_entries : List Entry → List Entry → Bool
same_entries xs ys = same (code_list code_entry xs) (code_list code_entry ys)
