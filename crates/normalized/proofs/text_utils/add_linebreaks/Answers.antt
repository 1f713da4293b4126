use Rattle.std.proofs.Common.{◌≡◌, ◌+◌, ◌-◌, ◌∙◌, ℕ, List, subst, ap, refl, sym, length, arith}
use Rattle.spec.specs.Bytes.{ends_with}
use Rattle.spec.specs.Md.TextUtils.{add_linebreaks, breaks_until, trim_trailing_space, trim_blanks}
use Rattle.text.specs.Texts.{bytes}
use Rattle.text.specs.Trimmed.{Trimmed}
use Rattle.text.proofs.Spaces.{cut_done, breaks_none, breaks_ended, breaks_more}
use Rattle.text.proofs.Texts.{as_done, owes_all, owes_step, owes_stop, owes_none}
use Rattle.normalized.proofs.text_utils.add_linebreaks.Goals as goal

pub loop-init : goal.loop-init
unfolding add_linebreaks trim_trailing_space
loop-init c =
    let a = c.args in let t = a.text.now in
    let all : length a.end.now - 0 ≡ length a.end.now = omega arith in
    let cut = subst (λ (s : List ℕ). Trimmed s c.trim_trailing_space-text.result (trim_blanks s)) c.bytes.ensures c.trim_trailing_space-text.ensures in
    rw all (owes_step (owes_all t (add_linebreaks a.linebreak.now a.end.now)) (breaks_until (length a.end.now) a.linebreak.now a.end.now) refl refl
    (as_done {f = trim_trailing_space} refl (cut_done trim_blanks t.room.now t.len _ t.fits cut)))

pub returns-then-ends_with : goal.returns-then-ends_with
returns-then-ends_with c =
    let a = c.args in let l = c.loop in
    let e = ap (ends_with a.end.now) (sym c.bytes-in-loop.ensures) ∙ sym c.ends_with.ensures ∙ c.if-ends_with.true in
    owes_none l.invariant (breaks_ended a.linebreak.now a.end.now (bytes l.text) (length a.end.now - l.counter) (omega arith) e)

pub returns-in_err-push_all : goal.returns-in_err-push_all
returns-in_err-push_all c =
    let a = c.args in let l = c.loop in let left = length a.end.now - l.counter in
    let e = ap (ends_with a.end.now) (sym c.bytes-in-loop.ensures) ∙ sym c.ends_with.ensures ∙ c.if-ends_with.false in
    owes_stop l.invariant (breaks_until (left - 1) a.linebreak.now a.end.now) (breaks_more a.linebreak.now a.end.now (bytes l.text) left (omega arith) e)
    c.in_err-push_all.was c.push_all.ensures c.from_residual.ensures.0

pub loop-preserved : goal.loop-preserved
loop-preserved c =
    let a = c.args in let l = c.loop in let left = length a.end.now - l.counter in
    let fewer : length a.end.now - (l.counter + 1) ≡ left - 1 = omega arith in
    let e = ap (ends_with a.end.now) (sym c.bytes-in-loop.ensures) ∙ sym c.ends_with.ensures ∙ c.if-ends_with.false in
    rw fewer (owes_step l.invariant (breaks_until (left - 1) a.linebreak.now a.end.now) (breaks_more a.linebreak.now a.end.now (bytes l.text) left (omega arith) e)
    c.in_ok-push_all.was c.push_all.ensures)

pub returns : goal.returns
returns c =
    let a = c.args in let l = c.loop in
    owes_none l.invariant (breaks_none a.linebreak.now a.end.now (bytes l.text) (length a.end.now - l.counter) (omega arith))
