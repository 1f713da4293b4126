use Rattle.std.proofs.Common.{ℕ, List, [], ◌++◌, length, cond, not, ap, sym, subst}
use lib.Seq.{slice}
use Rattle.spec.specs.Bytes.{ascii}
use Rattle.spec.specs.Out.{push}
use Rattle.text.specs.Flow.{flow}
use Rattle.text.specs.Texts.{bytes}
use Rattle.text.proofs.Sourcing.{part_is}
use Rattle.text.proofs.Texts.{as_step, push_next, push_stopped}
use Rattle.normalized.specs.Layout.{front, Laid}
use Rattle.normalized.proofs.normalize.push_words.Goals as goal

pub returns : goal.returns
returns c =
    let a = c.args in let s = a.s.now in let l = c.lay_out-l.result in
    let escape = not a.opts.skip_escape in
    let z = cond l.last (ascii " ") [] in
    let laid = subst (λ (t : List ℕ). Laid a.opts t s l) c.bytes.ensures c.lay_out-l.ensures in
    as_step laid.is
    (push_next (front escape s l) (flow escape (slice l.mark (length s) s) ++ z) c.in_ok-push_front.was c.push_front.ensures (push_next (flow escape (slice l.mark (length s) s)) z c.in_ok-push_flow.was (as_step (ap (λ (x : List ℕ). push (flow escape x) (bytes c.push_front.new.text)) (sym (part_is l.mark (length s) s))) c.push_flow.ensures) c.push_byte_if.ensures))

pub returns-in_err-push_front : goal.returns-in_err-push_front
returns-in_err-push_front c =
    let a = c.args in let s = a.s.now in let l = c.lay_out-l.result in
    let escape = not a.opts.skip_escape in
    let z = cond l.last (ascii " ") [] in
    let laid = subst (λ (t : List ℕ). Laid a.opts t s l) c.bytes.ensures c.lay_out-l.ensures in
    as_step laid.is
    (push_stopped (front escape s l) (flow escape (slice l.mark (length s) s) ++ z) c.in_err-push_front.was c.push_front.ensures c.from_residual.ensures.0)

pub returns-in_err-push_flow : goal.returns-in_err-push_flow
returns-in_err-push_flow c =
    let a = c.args in let s = a.s.now in let l = c.lay_out-l.result in
    let escape = not a.opts.skip_escape in
    let z = cond l.last (ascii " ") [] in
    let laid = subst (λ (t : List ℕ). Laid a.opts t s l) c.bytes.ensures c.lay_out-l.ensures in
    as_step laid.is
    (push_next (front escape s l) (flow escape (slice l.mark (length s) s) ++ z) c.in_ok-push_front.was c.push_front.ensures (push_stopped (flow escape (slice l.mark (length s) s)) z c.in_err-push_flow.was (as_step (ap (λ (x : List ℕ). push (flow escape x) (bytes c.push_front.new.text)) (sym (part_is l.mark (length s) s))) c.push_flow.ensures) c.from_residual-in_err-push_flow.ensures.0))
