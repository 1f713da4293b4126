use Rattle.std.proofs.Common.{[], ◌∷◌, cond}
use Rattle.spec.specs.Bytes.{ascii}
use Rattle.text.proofs.Texts.{push_next, push_stopped}
use Rattle.normalized.proofs.normalize.push_escaped.Goals as goal

pub returns : goal.returns
returns c = push_next (cond c.args.escaped (ascii "\\") []) (c.args.b ∷ []) c.in_ok-push_byte_if.was c.push_byte_if.ensures c.push_byte.ensures

pub returns-in_err-push_byte_if : goal.returns-in_err-push_byte_if
returns-in_err-push_byte_if c = push_stopped (cond c.args.escaped (ascii "\\") []) (c.args.b ∷ []) c.in_err-push_byte_if.was c.push_byte_if.ensures c.from_residual.ensures.0
