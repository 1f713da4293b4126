use mathlib.Core.Path.{sym, ap, ◌∙◌}
use lib.ListN.{length}
use lib.Seq.{take_all}
use native.Mathlib.Omega.{arith}
use Rattle.spec.specs.Bytes.{Bytes}
use Rattle.tree.specs.Attributes.{either_attr}
use Rattle.tree.specs.Represents.{attrs_behind}
use Rattle.tree.proofs.Attrs.{either_missing}
use Rattle.tree.proofs.Values.{valued_as, either_same}
use Rattle.tree.proofs.field.NodeField.attribute.Goals as goal

pub returns-then-has_none : goal.returns-then-has_none
returns-then-has_none c =
    either_missing _ _ _ (c.has_none.ensures c.if-has_none.true) (sym (either_same _ _))

pub returns : goal.returns
returns c =
    let a = c.args in
    let whole = take_all (length a.name.now) a.name.now (omega arith) in
    valued_as c.either_attribute.ensures (ap (λ (x : Bytes). either_attr x x (attrs_behind a.self.sheet.now a.self.place)) whole ∙ either_same _ _)
