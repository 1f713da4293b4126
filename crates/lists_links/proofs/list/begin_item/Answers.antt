use mathlib.Core.Path.{refl}
use lib.ListN.{replicate}
use Rattle.spec.specs.Md.Ctx.{prefix}
use Rattle.spec.specs.Md.Elements.List.{begin_item}
use Rattle.text.proofs.Texts.{next, pushes_both, pushes_stop}
use Rattle.lists_links.proofs.list.begin_item.Goals as goal

pub returns-in_err-push_repeated : goal.returns-in_err-push_repeated
unfolding begin_item
returns-in_err-push_repeated c =
    let x = c.args.ctx in
    next refl c.trim_before_item.ensures (pushes_stop (replicate x.list_indent 32) (prefix x) c.in_err-push_repeated.was c.push_repeated.ensures c.from_residual.ensures.0)

pub returns : goal.returns
unfolding begin_item
returns c =
    let x = c.args.ctx in
    next refl c.trim_before_item.ensures (pushes_both (replicate x.list_indent 32) (prefix x) c.in_ok-push_repeated.was c.push_repeated.ensures c.push_prefix.ensures)
