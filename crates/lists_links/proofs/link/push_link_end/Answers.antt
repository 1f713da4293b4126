use Prim.Native.Nat.{ℕ}
use mathlib.Core.List.{List}
use Rattle.spec.specs.Bytes.{ascii}
use Rattle.spec.specs.Out.{push, and_then}
use Rattle.spec.specs.Tree.{attr}
use Rattle.spec.specs.Md.TextUtils.{push_md_url, push_title}
use Rattle.spec.specs.Md.Elements.Image.{if_some}
use Rattle.spec.specs.Md.Elements.Link.{link_end}
use Rattle.tree.specs.NodeFields.{attrs_of}
use Rattle.text.specs.Texts.{bytes}
use Rattle.text.proofs.Texts.{as_step, next, stop}
use Rattle.text.proofs.Writing.{then_assoc}
use Rattle.lists_links.proofs.link.push_link_end.Goals as goal

pub returns-in_err-push_all : goal.returns-in_err-push_all
unfolding link_end
returns-in_err-push_all c =
    let titled = if_some (attr (ascii "title") (attrs_of c.args.field)) push_title in
    let ended : List ℕ → _ = λ t. and_then (titled t) (push (ascii ")")) in
    as_step (then_assoc (push (ascii "](") (bytes c.args.text.now)) (push_md_url c.args.dest.now) ended)
    (stop (λ t. and_then (push_md_url c.args.dest.now t) ended) c.in_err-push_all.was c.push_all.ensures c.from_residual.ensures.0)

pub returns-in_err-push_md_url : goal.returns-in_err-push_md_url
unfolding link_end
returns-in_err-push_md_url c =
    let titled = if_some (attr (ascii "title") (attrs_of c.args.field)) push_title in
    stop (λ t. and_then (titled t) (push (ascii ")"))) c.in_err-push_md_url.was (next c.in_ok-push_all.was c.push_all.ensures c.push_md_url.ensures) c.from_residual-in_err-push_md_url.ensures.0

pub returns-in_err-push_title_of : goal.returns-in_err-push_title_of
unfolding link_end
returns-in_err-push_title_of c =
    next c.in_ok-push_md_url.was (next c.in_ok-push_all.was c.push_all.ensures c.push_md_url.ensures)
    (stop (push (ascii ")")) c.in_err-push_title_of.was c.push_title_of.ensures c.from_residual-in_err-push_title_of.ensures.0)

pub returns : goal.returns
unfolding link_end
returns c =
    next c.in_ok-push_md_url.was (next c.in_ok-push_all.was c.push_all.ensures c.push_md_url.ensures)
    (next c.in_ok-push_title_of.was c.push_title_of.ensures c.push_byte.ensures)
