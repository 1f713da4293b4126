use Rattle.std.proofs.Common.{cond, not, [], ◌++◌, refl}
use Rattle.spec.specs.Bytes.{ascii}
use Rattle.spec.specs.Md.Elements.Code.{backticks}
use Rattle.text.specs.Texts.{bytes}
use Rattle.text.proofs.Texts.{as_step, push_next, push_stopped}
use Rattle.marks.proofs.Spans.{line_unless}
use Rattle.marks.proofs.code.push_block_closing.Goals as goal

pub returns : goal.returns
unfolding backticks
returns c =
    let a = c.args in let nl = ascii "\n" in let fence = backticks a.fence in
    as_step (line_unless a.ended a.ended (fence ++ nl) (bytes a.text.now) refl)
    (push_next (cond (not a.ended) nl []) (fence ++ nl) c.in_ok-push_byte_if.was c.push_byte_if.ensures (push_next fence nl c.in_ok-push_repeated.was c.push_repeated.ensures c.push_byte.ensures))

pub returns-in_err-push_repeated : goal.returns-in_err-push_repeated
unfolding backticks
returns-in_err-push_repeated c =
    let a = c.args in let nl = ascii "\n" in let fence = backticks a.fence in
    as_step (line_unless a.ended a.ended (fence ++ nl) (bytes a.text.now) refl)
    (push_next (cond (not a.ended) nl []) (fence ++ nl) c.in_ok-push_byte_if.was c.push_byte_if.ensures
    (push_stopped fence nl c.in_err-push_repeated.was c.push_repeated.ensures c.from_residual-in_err-push_repeated.ensures.0))

pub returns-in_err-push_byte_if : goal.returns-in_err-push_byte_if
returns-in_err-push_byte_if c =
    let a = c.args in let nl = ascii "\n" in let fence = backticks a.fence in
    as_step (line_unless a.ended a.ended (fence ++ nl) (bytes a.text.now) refl)
    (push_stopped (cond (not a.ended) nl []) (fence ++ nl) c.in_err-push_byte_if.was c.push_byte_if.ensures c.from_residual.ensures.0)
