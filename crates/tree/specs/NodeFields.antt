-- What is asked of the field of a node.
use Rattle.std.specs.Prelude.{ℕ, ◌≡◌, List}
use Rattle.spec.specs.Bytes.{Bytes}
use Rattle.spec.specs.Tree.{Attr}
use Rattle.tree.specs.Memory.{place_at}
use Rattle.tree.specs.Represents.{attrs_behind}
use Rattle.tree.specs.declared.field.NodeField.{NodeField}

-- the attributes of the element with that field
abbrev pub attrs_of : NodeField → List Attr
attrs_of f = attrs_behind f.sheet.now f.place

-- f is the field of node i in that sheet
pub record IsField (sh ns : Bytes) (i : ℕ) (f : NodeField) : Type 0 where
  pub sheet_is : f.sheet.now ≡ sh
  pub place_is : f.place ≡ place_at ns i
