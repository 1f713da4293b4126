-- The rows of a table in node memory, among a range of numbers in the order of opening.
use Rattle.std.specs.Prelude.{ℕ, ◌+◌, ◌≤◌, ◌<◌, ◌≡◌, List, [], ◌∷◌}
use Rattle.spec.specs.Bytes.{Bytes}
use Rattle.spec.specs.Names.{tag_of}
use Rattle.spec.specs.Tree.{Attr, Forest}
use Rattle.spec.specs.Md.MDSerializer.{Ancestors}
use Rattle.spec.specs.Md.Elements.Table.{Cell, cells_of}
use Rattle.tree.specs.Memory.{place_at, parent_at}
use Rattle.tree.specs.Represents.{Around}
use Rattle.tree.specs.Nodes.{name_at}
use Rattle.nodes.specs.Stands.{NodeAt, ElementAt}

-- node r is a row with these cells
pub record RowAt (sh ns : Bytes) (r : ℕ) (row : List Cell) : Type 0 where
  pub name : Bytes
  pub attrs : List Attr
  pub kids : Forest
  pub anc : Ancestors
  pub is_element : ElementAt sh ns r name attrs kids
  pub is_row : tag_of name ≡ 17
  pub around : Around sh ns (parent_at ns r) anc
  pub cells_are : row ≡ cells_of (attrs ∷ anc) kids

-- the numbers from i up to e are nodes, and none of them is a row
pub record NoRow (sh ns : Bytes) (i e : ℕ) : Type 0 where
  pub ordered : i ≤ e
  pub nodes : (j : ℕ) → i ≤ j → j < e → NodeAt sh ns j
  pub others : (j : ℕ) → i ≤ j → j < e → name_at sh (place_at ns j) ≡ 17 → ⊥

-- these are the rows among the nodes from number i up to e
unfoldable pub Rows : Bytes → Bytes → ℕ → ℕ → List (List Cell) → Type 0
Rows sh ns i e [] = NoRow sh ns i e
Rows sh ns i e (row ∷ rows) = (r : ℕ) × NoRow sh ns i r × RowAt sh ns r row × Rows sh ns (r + 1) e rows

-- the rows among the nodes up to e, of which node r is the first; without rows r is e
unfoldable pub RowsAt : Bytes → Bytes → ℕ → ℕ → List (List Cell) → Type 0
RowsAt sh ns r e [] = r ≡ e
RowsAt sh ns r e (row ∷ rows) = RowAt sh ns r row × Rows sh ns (r + 1) e rows

-- node r is some row
abbrev pub SomeRow : Bytes → Bytes → ℕ → Type 0
SomeRow sh ns r = (row : List Cell) × RowAt sh ns r row

-- the nodes from number i up to e have some rows
abbrev pub SomeRows : Bytes → Bytes → ℕ → ℕ → Type 0
SomeRows sh ns i e = (rows : List (List Cell)) × Rows sh ns i e rows

-- node r is a node, which may be a row
abbrev pub MaybeRow : Bytes → Bytes → ℕ → Type 0
MaybeRow sh ns r = NodeAt sh ns r × (name_at sh (place_at ns r) ≡ 17 → SomeRow sh ns r)
