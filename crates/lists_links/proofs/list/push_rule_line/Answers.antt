use mathlib.Core.List.{◌++◌}
use lib.ListN.{replicate}
use Rattle.spec.specs.Bytes.{ascii}
use Rattle.spec.specs.Md.Ctx.{break_of}
use Rattle.text.proofs.Texts.{pushes_both, pushes_stop}
use Rattle.lists_links.proofs.list.push_rule_line.Goals as goal

pub returns-in_err-push_all : goal.returns-in_err-push_all
returns-in_err-push_all c =
    let lb = break_of c.args.item.ctx in
    pushes_both (lb ++ replicate c.args.item.indent 32) (ascii "---" ++ lb) c.in_ok-push_line_start.was c.push_line_start.ensures
    (pushes_stop (ascii "---") lb c.in_err-push_all.was c.push_all.ensures c.from_residual-in_err-push_all.ensures.0)

pub returns : goal.returns
returns c =
    let lb = break_of c.args.item.ctx in
    pushes_both (lb ++ replicate c.args.item.indent 32) (ascii "---" ++ lb) c.in_ok-push_line_start.was c.push_line_start.ensures
    (pushes_both (ascii "---") lb c.in_ok-push_all.was c.push_all.ensures c.push_linebreak.ensures)
