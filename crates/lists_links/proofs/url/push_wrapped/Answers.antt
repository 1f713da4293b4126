use mathlib.Core.List.{◌++◌}
use Rattle.spec.specs.Bytes.{ascii}
use Rattle.spec.specs.Md.TextUtils.{each_byte, wrapped_byte, html_escape}
use Rattle.text.proofs.Texts.{pushes_both, pushes_stop}
use Rattle.lists_links.proofs.url.push_wrapped.Goals as goal

pub returns-in_err-push_byte : goal.returns-in_err-push_byte
returns-in_err-push_byte c =
    let d = each_byte wrapped_byte (html_escape c.args.dest.now) in
    pushes_stop (ascii "<") (d ++ ascii ">") c.in_err-push_byte.was c.push_byte.ensures c.from_residual.ensures.0

pub returns-in_err-push_dest : goal.returns-in_err-push_dest
returns-in_err-push_dest c =
    let d = each_byte wrapped_byte (html_escape c.args.dest.now) in
    pushes_both (ascii "<") (d ++ ascii ">") c.in_ok-push_byte.was c.push_byte.ensures
    (pushes_stop d (ascii ">") c.in_err-push_dest.was c.push_dest.ensures c.from_residual-in_err-push_dest.ensures.0)

pub returns : goal.returns
returns c =
    let d = each_byte wrapped_byte (html_escape c.args.dest.now) in
    pushes_both (ascii "<") (d ++ ascii ">") c.in_ok-push_byte.was c.push_byte.ensures
    (pushes_both d (ascii ">") c.in_ok-push_dest.was c.push_dest.ensures c.push_byte-2.ensures)
