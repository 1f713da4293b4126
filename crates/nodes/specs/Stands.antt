-- The nodes that a function is given, in node memory.
use Rattle.std.specs.Prelude.{ℕ, ◌+◌, ◌*◌, ◌≤◌, ◌<◌, ◌≡◌, List, length}
use Rattle.spec.specs.Bytes.{Bytes}
use Rattle.spec.specs.Tree.{Attr, Forest}
use Rattle.spec.specs.Md.MDSerializer.{Ancestors}
use Rattle.tree.specs.Memory.{entry_at, place_at, number_at, end_at, parent_at}
use Rattle.tree.specs.Nodes.{name_at}
use Rattle.tree.specs.Represents.{FieldAt, attrs_behind, Rep, Around}

-- the nodes from number i up to e are some forest
abbrev pub Siblings : Bytes → Bytes → ℕ → ℕ → Type 0
Siblings sh ns i e = (parent : ℕ) × (f : Forest) × Rep sh ns parent i e f

-- node i is the first of some siblings
abbrev pub SomeNode : Bytes → Bytes → ℕ → Type 0
SomeNode sh ns i = (e : ℕ) × (i < e) × Siblings sh ns i e

-- node i has a record, a field in the sheet, and the number of its name
pub record NodeAt (sh ns : Bytes) (i : ℕ) : Type 0 where
  pub inside : i * 24 + 24 ≤ length ns
  pub placed : place_at ns i + 3 ≤ length sh
  pub numbered : number_at ns i ≡ name_at sh (place_at ns i)

-- node i is this element
pub record ElementAt (sh ns : Bytes) (i : ℕ) (name : Bytes) (attrs : List Attr) (kids : Forest) : Type 0 where
  pub positive : 0 < i
  pub inside : i * 24 + 24 ≤ length ns
  pub field : FieldAt sh (entry_at ns i) 1 name
  pub attrs_are : attrs ≡ attrs_behind sh (place_at ns i)
  pub kids_are : Rep sh ns i (i + 1) (end_at ns i) kids

-- node i is some element
abbrev pub SomeElement : Bytes → Bytes → ℕ → Type 0
SomeElement sh ns i = (name : Bytes) × (attrs : List Attr) × (kids : Forest) × ElementAt sh ns i name attrs kids

-- node i is some element, and the elements around it are some
abbrev pub Placed : Bytes → Bytes → ℕ → Type 0
Placed sh ns i = SomeElement sh ns i × ((anc : Ancestors) × Around sh ns (parent_at ns i) anc)

-- the nodes from number i up to e are some forest, none of them the fragment, and the elements around them are some
pub record Placeds (sh ns : Bytes) (i e : ℕ) : Type 0 where
  pub parent : ℕ
  pub forest : Forest
  pub anc : Ancestors
  pub positive : 0 < i
  pub rep : Rep sh ns parent i e forest
  pub around : Around sh ns parent anc

-- node i is some node below the fragment
pub record PlacedNode (sh ns : Bytes) (i : ℕ) : Type 0 where
  pub later : i < end_at ns i
  pub alone : Placeds sh ns i (end_at ns i)
