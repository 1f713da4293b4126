use Rattle.std.proofs.Common.{List, [], ◌++◌, ℕ, length, cond, ap}
use lib.Seq.{slice}
use Rattle.spec.specs.Bytes.{ascii}
use Rattle.spec.specs.Out.{push}
use Rattle.text.specs.Flow.{flow_before}
use Rattle.text.specs.Marks.{lead_of}
use Rattle.text.specs.Texts.{bytes}
use Rattle.text.proofs.Texts.{as_step, push_next, push_stopped}
use Rattle.normalized.proofs.Normal.{lead_is}
use Rattle.normalized.proofs.Streaming.{part_flow}
use Rattle.normalized.proofs.normalize.push_front.Goals as goal

pub returns : goal.returns
returns c =
    let a = c.args in let l = a.l in let s = a.s.now in
    let y = flow_before a.escape (slice l.at l.mark s) (slice l.mark (length s) s) in
    let z = cond l.sign (ascii "\\") [] in
    push_next (lead_of l.lead) (y ++ z) c.in_ok-push_byte_if.was (as_step (ap (λ (x : List ℕ). push x (bytes a.text.now)) (lead_is l.lead)) c.push_byte_if.ensures)
    (push_next y z c.in_ok-push_bytes.was (as_step (ap (λ (x : List ℕ). push x (bytes c.push_byte_if.new.self)) (part_flow s a.escape l.at l.mark c.requires.0)) c.push_bytes.ensures) c.push_byte_if-2.ensures)

pub returns-in_err-push_byte_if : goal.returns-in_err-push_byte_if
returns-in_err-push_byte_if c =
    let a = c.args in let l = a.l in let s = a.s.now in
    push_stopped (lead_of l.lead) (flow_before a.escape (slice l.at l.mark s) (slice l.mark (length s) s) ++ cond l.sign (ascii "\\") []) c.in_err-push_byte_if.was
    (as_step (ap (λ (x : List ℕ). push x (bytes a.text.now)) (lead_is l.lead)) c.push_byte_if.ensures) c.from_residual.ensures.0

pub returns-in_err-push_bytes : goal.returns-in_err-push_bytes
returns-in_err-push_bytes c =
    let a = c.args in let l = a.l in let s = a.s.now in
    let y = flow_before a.escape (slice l.at l.mark s) (slice l.mark (length s) s) in
    let z = cond l.sign (ascii "\\") [] in
    push_next (lead_of l.lead) (y ++ z) c.in_ok-push_byte_if.was (as_step (ap (λ (x : List ℕ). push x (bytes a.text.now)) (lead_is l.lead)) c.push_byte_if.ensures)
    (push_stopped y z c.in_err-push_bytes.was (as_step (ap (λ (x : List ℕ). push x (bytes c.push_byte_if.new.self)) (part_flow s a.escape l.at l.mark c.requires.0)) c.push_bytes.ensures) c.from_residual-in_err-push_bytes.ensures.0)
