use Rattle.std.proofs.Common.{sym, subst}
use Rattle.std.specs.Prelude.{Option}
use Rattle.std.specs.Borrow.{Bor}
use Rattle.spec.specs.Bytes.{Bytes, ascii}
use Rattle.spec.specs.Tree.{attr}
use Rattle.spec.specs.Md.Elements.Code.{class_language}
use Rattle.tree.specs.NodeFields.{attrs_of}
use Rattle.elements.specs.Languages.{Language}
use Rattle.elements.proofs.Languages.{class_value, class_missing}
use Rattle.elements.proofs.code_language.class_of.Goals as goal

pub returns : goal.returns
returns c = class_value c.in_ok-attribute.ensures c.class_language.ensures

pub returns-in_err-attribute : goal.returns-in_err-attribute
returns-in_err-attribute c =
    let a = c.args in
    subst (λ (r : Option (Bor Bytes)). Language a.field.sheet.now r (class_language (attr (ascii "class") (attrs_of a.field)))) (sym c.from_residual.ensures)
    (class_missing c.in_err-attribute.ensures)
