use mathlib.Core.Path.{sym, ap, ◌∙◌}
use Rattle.spec.specs.Bytes.{ascii}
use Rattle.spec.specs.Tree.{attr}
use Rattle.spec.specs.Md.Elements.List.{number_of, renumbered}
use Rattle.spec.specs.declared.ctx.ListKind.{ListKind}
use Rattle.tree.specs.NodeFields.{attrs_of}
use Rattle.text.proofs.Writing.{yes}
use Rattle.elements.proofs.item_steps.renumbered.Goals as goal

pub returns-in-Ul : goal.returns-in-Ul
unfolding renumbered
returns-in-Ul c =
    let a = c.args in
    let o = number_of (attr (ascii "value") (attrs_of a.field)) in
    sym (yes (renumbered a.ctx.kind o a.ctx) a.ctx (c.if-not-li.false) ∙ ap (λ (k : ListKind). renumbered k o a.ctx) c.in-Ul.is)
