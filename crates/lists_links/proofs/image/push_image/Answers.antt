use Prim.Native.Nat.{ℕ}
use mathlib.Core.Path.{sym}
use mathlib.Core.List.{List}
use Rattle.spec.specs.Bytes.{ascii}
use Rattle.spec.specs.Out.{push, and_then}
use Rattle.spec.specs.Tree.{attr}
use Rattle.spec.specs.Md.TextUtils.{push_md_url, push_title}
use Rattle.spec.specs.Md.Elements.Image.{if_some, image_of}
use Rattle.spec.specs.Md.Elements.Link.{link_end}
use Rattle.tree.specs.NodeFields.{attrs_of}
use Rattle.text.specs.Texts.{bytes}
use Rattle.text.proofs.Texts.{as_step, next, stop}
use Rattle.text.proofs.Writing.{then_assoc}
use Rattle.lists_links.proofs.image.push_image.Goals as goal

pub returns-in_err-push_all : goal.returns-in_err-push_all
unfolding image_of
returns-in_err-push_all c = stop _ c.in_err-push_all.was c.push_all.ensures c.from_residual.ensures.0

pub returns-in_err-push_alt : goal.returns-in_err-push_alt
unfolding image_of
returns-in_err-push_alt c =
    next c.in_ok-push_all.was c.push_all.ensures (stop _ c.in_err-push_alt.was c.push_alt.ensures c.from_residual-in_err-push_alt.ensures.0)

pub returns : goal.returns
unfolding image_of link_end
returns c =
    let titled = if_some (attr (ascii "title") (attrs_of c.args.field)) push_title in
    next c.in_ok-push_all.was c.push_all.ensures (next c.in_ok-push_alt.was c.push_alt.ensures
    (as_step (sym (then_assoc (push (ascii "](") (bytes c.push_alt.new.text)) (push_md_url c.args.source.now) (λ (t : List ℕ). and_then (titled t) (push (ascii ")"))))) c.push_link_end.ensures))
