use Rattle.std.proofs.Common.{length, sym}
use borrow.Author.Tests.{eqb-true}
use Rattle.spec.specs.Out.{push}
use Rattle.text.specs.Flow.{flow}
use Rattle.text.specs.Texts.{bytes}
use Rattle.text.proofs.Texts.{owes_step, owes_stop, owes_last, pushes_nothing}
use Rattle.normalized.proofs.Streaming.{from, plain_turn, stretch_turn, flow_ended}
use Rattle.normalized.proofs.normalize.push_flow.Goals as goal

pub returns-in_err-push_some : goal.returns-in_err-push_some
returns-in_err-push_some c =
    let e = c.args.escape in let l = c.loop-rest in let s = l.rest.now in let k = c.plain_blocks-k in
    owes_stop l.invariant (push (flow e (from k.result s))) (plain_turn s e (bytes l.text) k.result k.ensures) c.in_err-push_some.was c.push_some.ensures c.from_residual.ensures.0

pub returns-in_err-push_stretch : goal.returns-in_err-push_stretch
returns-in_err-push_stretch c =
    let e = c.args.escape in let l = c.loop-rest in let s = l.rest.now in let k = c.plain_blocks-k in
    let rest = from k.result s in
    owes_stop (owes_step l.invariant (push (flow e rest)) (plain_turn s e (bytes l.text) k.result k.ensures) c.in_ok-push_some.was c.push_some.ensures)
    (push (flow e (from c.min-n.result rest))) (stretch_turn rest e (bytes c.push_some.new.text) c.min-n.result) c.in_err-push_stretch.was c.push_stretch.ensures c.from_residual-in_err-push_stretch.ensures.0

pub loop-rest-preserved : goal.loop-rest-preserved
loop-rest-preserved c =
    let e = c.args.escape in let l = c.loop-rest in let s = l.rest.now in let k = c.plain_blocks-k in
    let rest = from k.result s in
    owes_step (owes_step l.invariant (push (flow e rest)) (plain_turn s e (bytes l.text) k.result k.ensures) c.in_ok-push_some.was c.push_some.ensures)
    (push (flow e (from c.min-n.result rest))) (stretch_turn rest e (bytes c.push_some.new.text) c.min-n.result) c.in_ok-push_stretch.was c.push_stretch.ensures

pub returns : goal.returns
returns c =
    let l = c.loop-rest in
    owes_last l.invariant (flow_ended l.rest.now c.args.escape (bytes l.text) (eqb-true (length l.rest.now) 0 (sym c.loop-rest-test.ensures))) (pushes_nothing l.text)
