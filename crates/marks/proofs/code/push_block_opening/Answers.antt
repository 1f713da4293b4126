use Rattle.std.proofs.Common.{cond, not, [], ◌++◌, ap, ◌∙◌}
use Rattle.spec.specs.Bytes.{ascii, ends_with}
use Rattle.spec.specs.Md.Elements.Code.{backticks, sanitize_attr_value}
use Rattle.text.specs.Texts.{bytes}
use Rattle.text.proofs.Texts.{as_step, push_next, push_stopped}
use Rattle.marks.proofs.Spans.{line_unless}
use Rattle.marks.proofs.code.push_block_opening.Goals as goal

pub returns : goal.returns
unfolding backticks
returns c =
    let nl = ascii "\n" in let x = cond (not c.ends_with-begun.result) nl [] in let y = backticks c.args.fence in let z = sanitize_attr_value c.args.lang.now in
    as_step (line_unless _ c.ends_with-begun.result (y ++ (z ++ nl)) (bytes c.args.text.now) (c.ends_with-begun.ensures ∙ ap (ends_with (ascii "\n\n")) c.bytes.ensures))
    (push_next x (y ++ (z ++ nl)) c.in_ok-push_byte_if.was c.push_byte_if.ensures (push_next y (z ++ nl) c.in_ok-push_repeated.was c.push_repeated.ensures (push_next z nl c.in_ok-push_sanitized.was c.push_sanitized.ensures c.push_byte.ensures)))

pub returns-in_err-push_sanitized : goal.returns-in_err-push_sanitized
unfolding backticks
returns-in_err-push_sanitized c =
    let nl = ascii "\n" in let x = cond (not c.ends_with-begun.result) nl [] in let y = backticks c.args.fence in let z = sanitize_attr_value c.args.lang.now in
    as_step (line_unless _ c.ends_with-begun.result (y ++ (z ++ nl)) (bytes c.args.text.now) (c.ends_with-begun.ensures ∙ ap (ends_with (ascii "\n\n")) c.bytes.ensures))
    (push_next x (y ++ (z ++ nl)) c.in_ok-push_byte_if.was c.push_byte_if.ensures (push_next y (z ++ nl) c.in_ok-push_repeated.was c.push_repeated.ensures (push_stopped z nl c.in_err-push_sanitized.was c.push_sanitized.ensures c.from_residual-in_err-push_sanitized.ensures.0)))

pub returns-in_err-push_repeated : goal.returns-in_err-push_repeated
unfolding backticks
returns-in_err-push_repeated c =
    let nl = ascii "\n" in let x = cond (not c.ends_with-begun.result) nl [] in let y = backticks c.args.fence in let z = sanitize_attr_value c.args.lang.now in
    as_step (line_unless _ c.ends_with-begun.result (y ++ (z ++ nl)) (bytes c.args.text.now) (c.ends_with-begun.ensures ∙ ap (ends_with (ascii "\n\n")) c.bytes.ensures))
    (push_next x (y ++ (z ++ nl)) c.in_ok-push_byte_if.was c.push_byte_if.ensures (push_stopped y (z ++ nl) c.in_err-push_repeated.was c.push_repeated.ensures c.from_residual-in_err-push_repeated.ensures.0))

pub returns-in_err-push_byte_if : goal.returns-in_err-push_byte_if
returns-in_err-push_byte_if c =
    let nl = ascii "\n" in let x = cond (not c.ends_with-begun.result) nl [] in let y = backticks c.args.fence in let z = sanitize_attr_value c.args.lang.now in
    as_step (line_unless _ c.ends_with-begun.result (y ++ (z ++ nl)) (bytes c.args.text.now) (c.ends_with-begun.ensures ∙ ap (ends_with (ascii "\n\n")) c.bytes.ensures))
    (push_stopped x (y ++ (z ++ nl)) c.in_err-push_byte_if.was c.push_byte_if.ensures c.from_residual.ensures.0)
