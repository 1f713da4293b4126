use Prim.Native.Nat.{ℕ}
use mathlib.Core.Bool.{cond}
use mathlib.Core.List.{List}
use Rattle.spec.specs.Bytes.{ascii, isin}
use Rattle.spec.specs.Out.{push, and_then}
use Rattle.spec.specs.Md.Ctx.{new}
use Rattle.spec.specs.Md.TextUtils.{quoted_title, push_normalized_text, push_title}
use Rattle.text.specs.Texts.{bytes}
use Rattle.text.proofs.Texts.{as_step, next, stop}
use Rattle.text.proofs.Writing.{then_assoc}
use Rattle.lists_links.proofs.title.push_title.Goals as goal

pub returns-in_err-push_all : goal.returns-in_err-push_all
unfolding push_title
returns-in_err-push_all c =
    let f = cond (isin 34 c.args.title.now) (quoted_title c.args.title.now) (push_normalized_text c.args.title.now new) in
    as_step (then_assoc (push (ascii " \"") (bytes c.args.text.now)) f (push (ascii "\"")))
    (stop (λ (t : List ℕ). and_then (f t) (push (ascii "\""))) c.in_err-push_all.was c.push_all.ensures c.from_residual.ensures.0)

pub returns-in_err-push_title_text : goal.returns-in_err-push_title_text
unfolding push_title
returns-in_err-push_title_text c =
    stop (push (ascii "\"")) c.in_err-push_title_text.was (next c.in_ok-push_all.was c.push_all.ensures c.push_title_text.ensures) c.from_residual-in_err-push_title_text.ensures.0

pub returns : goal.returns
unfolding push_title
returns c =
    next c.in_ok-push_title_text.was (next c.in_ok-push_all.was c.push_all.ensures c.push_title_text.ensures) c.push_byte.ensures
