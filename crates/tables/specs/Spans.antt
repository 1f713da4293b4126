-- The texts of a table's cells, one behind the other, by the lengths in the scratch of the cells' records.
use Rattle.std.specs.Prelude.{ℕ, zero, suc, ◌+◌, ◌-◌, ◌*◌, ◌<◌, max, ◌≡◌, true, cond, ◌&&◌, List, [], ◌∷◌, ◌++◌, length, take, drop, replicate, eqb}
use Rattle.spec.specs.Bytes.{Bytes, null}
use Rattle.spec.specs.Tree.{Forest}
use Rattle.spec.specs.Md.MDSerializer.{Ancestors}
use Rattle.spec.specs.Md.Elements.Table.{cells_of, is_table_cell}
use Rattle.tree.specs.Memory.{place_at, end_at, parent_at, length_at}
use Rattle.tree.specs.Nodes.{name_at}
use Rattle.tree.specs.Represents.{Rep}
use Rattle.tables.specs.Puts.{bar_line, bar_lines}

-- what n numbers from i on give, one after the other
unfoldable pub gather : {A : Type 0} → (ℕ → List A) → ℕ → ℕ → List A
gather at zero i = []
gather at (suc n) i = at i ++ gather at n (suc i)

-- the length of the text of node j, where it is a cell of row r
unfoldable pub length_if : Bytes → Bytes → ℕ → ℕ → List ℕ
length_if sh ns r j = cond (eqb (parent_at ns j) r && is_table_cell (name_at sh (place_at ns j))) (length_at ns j ∷ []) []

-- the lengths of the cells of row r among the nodes from number i up to e
abbrev pub cell_lengths : Bytes → Bytes → ℕ → ℕ → ℕ → List ℕ
cell_lengths sh ns r i e = gather (length_if sh ns r) (e - i) i

-- of row r, up to number e
abbrev pub lengths_to : Bytes → Bytes → ℕ → ℕ → List ℕ
lengths_to sh ns r e = cell_lengths sh ns r (r + 1) e

abbrev pub row_lengths : Bytes → Bytes → ℕ → List ℕ
row_lengths sh ns r = lengths_to sh ns r (end_at ns r)

unfoldable pub row_if : Bytes → Bytes → ℕ → List (List ℕ)
row_if sh ns j = cond (eqb (name_at sh (place_at ns j)) 17) (row_lengths sh ns j ∷ []) []

-- the lengths of the cells of each row among the nodes from number i up to e
abbrev pub table_lengths : Bytes → Bytes → ℕ → ℕ → List (List ℕ)
table_lengths sh ns i e = gather (row_if sh ns) (e - i) i

-- the lists that are not empty
unfoldable pub filled : {A : Type 0} → List (List A) → List (List A)
filled [] = []
filled (x ∷ xs) = cond (null x) (filled xs) (x ∷ filled xs)

-- of the rows that have cells
abbrev pub line_lengths : Bytes → Bytes → ℕ → ℕ → List (List ℕ)
line_lengths sh ns i e = filled (table_lengths sh ns i e)

unfoldable pub sum : List ℕ → ℕ
sum [] = 0
sum (n ∷ l) = n + sum l

-- how many are 0
unfoldable pub zeros : List ℕ → ℕ
zeros [] = 0
zeros (n ∷ l) = max n 1 - n + zeros l

-- the parts of s that have these lengths
unfoldable pub cuts : List ℕ → Bytes → List Bytes
cuts [] s = []
cuts (n ∷ l) s = take n s ∷ cuts l (drop n s)

unfoldable pub cut_rows : List (List ℕ) → Bytes → List (List Bytes)
cut_rows [] s = []
cut_rows (l ∷ ls) s = cuts l s ∷ cut_rows ls (drop (sum l) s)

-- the hyphens under headings of these lengths
unfoldable pub unders : List ℕ → List Bytes
unders [] = []
unders (n ∷ l) = replicate (max n 1) 45 ∷ unders l

-- what lines have besides the texts of their cells
unfoldable pub marks : List (List ℕ) → ℕ
marks [] = 0
marks (l ∷ ls) = 3 * length l + 2 + marks ls

unfoldable pub width : List (List ℕ) → ℕ
width [] = 0
width (l ∷ ls) = length l

-- the table of headings and rows of these lengths, whose texts are s
unfoldable pub table_bytes : List ℕ → List (List ℕ) → Bytes → Bytes
table_bytes head rows s =
    let blanks = width rows - length head in
    10
    ∷ (bar_line (cuts head s ++ replicate blanks (32 ∷ []))
    ++ (bar_line (unders head ++ replicate blanks (45 ∷ [])) ++ bar_lines (cut_rows rows (drop (sum head) s))))

-- the nodes behind number r up to e are children of node r
abbrev pub Kids : Bytes → Bytes → ℕ → ℕ → Type 0
Kids sh ns r e = (f : Forest) × Rep sh ns r (r + 1) e f

-- so are those from number c on, the first of which is a cell
pub record CellFrom (sh ns : Bytes) (r c e : ℕ) : Type 0 where
  pub rest : Forest
  pub later : r < c
  pub rep : Rep sh ns r c e rest
  pub is_cell_lem : c < e → is_table_cell (name_at sh (place_at ns c)) ≡ true

-- node r is the first cell among the siblings from number `from` on, or r is e
abbrev pub NextCell : Bytes → Bytes → ℕ → ℕ → ℕ → Type 0
NextCell sh ns from e r =
    (parent : ℕ) (f : Forest) → parent < from → Rep sh ns parent from e f
    → (x : CellFrom sh ns parent r e) × (cell_lengths sh ns parent from e ≡ cell_lengths sh ns parent r e) × ((anc : Ancestors) → cells_of anc f ≡ cells_of anc x.rest)
