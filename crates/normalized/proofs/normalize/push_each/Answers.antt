use Rattle.std.proofs.Common.{◌+◌, drop}
use lib.Seq.{slice}
use Rattle.spec.specs.Out.{push}
use Rattle.text.specs.Flow.{flow_before}
use Rattle.text.specs.Texts.{bytes}
use Rattle.text.proofs.Texts.{owes_step, owes_stop, owes_last, pushes_nothing}
use Rattle.normalized.proofs.Streaming.{byte_turn, bytes_ended}
use Rattle.normalized.proofs.normalize.push_each.Goals as goal

pub returns-in_err-push_byte_of : goal.returns-in_err-push_byte_of
returns-in_err-push_byte_of c =
    let a = c.args in let s = a.s.now in let l = c.loop-i in
    owes_stop l.invariant (push (flow_before a.escape (slice (l.i + 1) a.n s) (drop a.n s))) (byte_turn s a.escape (bytes l.text) l.i a.n c.loop-i-test.true c.requires)
    c.in_err-push_byte_of.was (c.push_byte_of.ensures (drop (l.i + 1) s) c.next_of.ensures) c.from_residual.ensures.0

pub loop-i-preserved : goal.loop-i-preserved
loop-i-preserved c =
    let a = c.args in let s = a.s.now in let l = c.loop-i in
    owes_step l.invariant (push (flow_before a.escape (slice (l.i + 1) a.n s) (drop a.n s))) (byte_turn s a.escape (bytes l.text) l.i a.n c.loop-i-test.true c.requires)
    c.in_ok-push_byte_of.was (c.push_byte_of.ensures (drop (l.i + 1) s) c.next_of.ensures)

pub returns : goal.returns
returns c =
    let a = c.args in let l = c.loop-i in
    owes_last l.invariant (bytes_ended a.s.now a.escape (bytes l.text) l.i a.n c.loop-i-test.false) (pushes_nothing l.text)
