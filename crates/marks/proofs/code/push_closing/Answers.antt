use Rattle.std.proofs.Common.{cond, []}
use Rattle.spec.specs.Bytes.{ascii}
use Rattle.spec.specs.Md.Elements.Code.{backticks}
use Rattle.text.proofs.Texts.{push_next, push_stopped}
use Rattle.marks.proofs.code.push_closing.Goals as goal

pub returns : goal.returns
unfolding backticks
returns c = push_next (cond c.args.space (ascii " ") []) (backticks c.args.fence) c.in_ok-push_byte_if.was c.push_byte_if.ensures c.push_repeated.ensures

pub returns-in_err-push_byte_if : goal.returns-in_err-push_byte_if
returns-in_err-push_byte_if c =
    push_stopped (cond c.args.space (ascii " ") []) (backticks c.args.fence) c.in_err-push_byte_if.was c.push_byte_if.ensures c.from_residual.ensures.0
