use Rattle.std.proofs.Common.{Bool, cond, [], ◌++◌, ap, sym, ◌∙◌}
use Rattle.spec.specs.Bytes.{ascii, ends_with}
use Rattle.spec.specs.Out.{push}
use Rattle.spec.specs.Md.Elements.Code.{backticks}
use Rattle.text.specs.Texts.{bytes}
use Rattle.text.proofs.Texts.{as_step, push_next, push_stopped}
use Rattle.marks.proofs.code.push_opening.Goals as goal

pub returns : goal.returns
unfolding backticks
returns c =
    let x = cond c.ends_with_byte-apart.result (ascii " ") [] in let y = backticks c.args.fence in let z = cond c.args.space (ascii " ") [] in
    let e = ap (λ (b : Bool). push (cond b (ascii " ") [] ++ (y ++ z)) (bytes c.args.text.now)) (ap (ends_with (ascii "`")) (sym c.bytes.ensures) ∙ sym c.ends_with_byte-apart.ensures) in
    as_step e (push_next x (y ++ z) c.in_ok-push_byte_if.was c.push_byte_if.ensures (push_next y z c.in_ok-push_repeated.was c.push_repeated.ensures c.push_byte_if-2.ensures))

pub returns-in_err-push_repeated : goal.returns-in_err-push_repeated
unfolding backticks
returns-in_err-push_repeated c =
    let x = cond c.ends_with_byte-apart.result (ascii " ") [] in let y = backticks c.args.fence in let z = cond c.args.space (ascii " ") [] in
    let e = ap (λ (b : Bool). push (cond b (ascii " ") [] ++ (y ++ z)) (bytes c.args.text.now)) (ap (ends_with (ascii "`")) (sym c.bytes.ensures) ∙ sym c.ends_with_byte-apart.ensures) in
    as_step e (push_next x (y ++ z) c.in_ok-push_byte_if.was c.push_byte_if.ensures (push_stopped y z c.in_err-push_repeated.was c.push_repeated.ensures c.from_residual-in_err-push_repeated.ensures.0))

pub returns-in_err-push_byte_if : goal.returns-in_err-push_byte_if
returns-in_err-push_byte_if c =
    let x = cond c.ends_with_byte-apart.result (ascii " ") [] in let y = backticks c.args.fence in let z = cond c.args.space (ascii " ") [] in
    let e = ap (λ (b : Bool). push (cond b (ascii " ") [] ++ (y ++ z)) (bytes c.args.text.now)) (ap (ends_with (ascii "`")) (sym c.bytes.ensures) ∙ sym c.ends_with_byte-apart.ensures) in
    as_step e (push_stopped x (y ++ z) c.in_err-push_byte_if.was c.push_byte_if.ensures c.from_residual.ensures.0)
