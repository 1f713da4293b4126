use Rattle.std.proofs.Common.{◌+◌, drop}
use Rattle.spec.specs.Out.{push}
use Rattle.spec.specs.Md.Elements.Code.{filter}
use Rattle.marks.specs.Kept.{kept_byte}
use Rattle.text.specs.Texts.{bytes}
use Rattle.text.proofs.Texts.{owes_step, owes_stop, owes_last, pushes_nothing}
use Rattle.marks.proofs.Leaves.{filter_turn, filter_none}
use Rattle.marks.proofs.code.push_filtered.Goals as goal

pub returns-in_err-push_byte_if : goal.returns-in_err-push_byte_if
returns-in_err-push_byte_if c =
    let s = c.args.s.now in let l = c.loop-b in
    owes_stop l.invariant (push (filter kept_byte (drop (l.b-index + 1) s))) (filter_turn kept_byte s (bytes l.text) l.b-index c.is_kept.result c.loop-b-test.true c.is_kept.ensures)
    c.in_err-push_byte_if.was c.push_byte_if.ensures c.from_residual.ensures.0

pub loop-b-preserved : goal.loop-b-preserved
loop-b-preserved c =
    let s = c.args.s.now in let l = c.loop-b in
    owes_step l.invariant (push (filter kept_byte (drop (l.b-index + 1) s))) (filter_turn kept_byte s (bytes l.text) l.b-index c.is_kept.result c.loop-b-test.true c.is_kept.ensures)
    c.in_ok-push_byte_if.was c.push_byte_if.ensures

pub returns : goal.returns
returns c =
    let l = c.loop-b in owes_last l.invariant (filter_none kept_byte c.args.s.now (bytes l.text) l.b-index c.loop-b-test.false) (pushes_nothing l.text)
