use Rattle.std.proofs.Common.{cond, []}
use Rattle.spec.specs.Bytes.{ascii}
use Rattle.text.proofs.Texts.{push_next, push_stopped}
use Rattle.marks.proofs.emphasis.push_end.Goals as goal

pub returns : goal.returns
returns c =
    let x = c.args.marker.now in let y = cond c.args.trail (ascii " ") [] in push_next x y c.in_ok-push_all.was c.push_all.ensures c.push_byte_if.ensures

pub returns-in_err-push_all : goal.returns-in_err-push_all
returns-in_err-push_all c =
    let x = c.args.marker.now in let y = cond c.args.trail (ascii " ") [] in push_stopped x y c.in_err-push_all.was c.push_all.ensures c.from_residual.ensures.0
