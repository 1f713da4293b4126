use mathlib.Core.Path.{sym, ◌∙◌}
use mathlib.Core.Bool.{false≢true}
use lib.ListN.{get_or}
use native.Mathlib.Omega.{arith}
use borrow.Author.Tests.{ltb-true, not-true}
use Rattle.text.proofs.Ordinary.{not_white}
use Rattle.normalized.proofs.Starting.{first_letter, first_digit, digit_black}
use Rattle.normalized.proofs.line_start.begins_bare.Goals as goal

pub returns-then-s-ge65 : goal.returns-then-s-ge65
returns-then-s-ge65 c =
    let s = c.args.s.now in
    λ e. (not_white (get_or s 0 0) (omega (arith, c.if-s-ge65.true)), λ k. first_letter s c.if-s-ge65.true)

pub returns-then-not-escape : goal.returns-then-not-escape
returns-then-not-escape c =
    let s = c.args.s.now in
    λ e. (not_white (get_or s 0 0) (omega (arith, ltb-true 32 (get_or s 0 0) e)), λ k. absurd (false≢true (sym (c.if-not-escape.true) ∙ k)))

pub returns : goal.returns
returns c =
    let s = c.args.s.now in
    let d = c.has in
    let m = c.begins_marker in
    let h = sym d.ensures ∙ c.if-not-has.false in
    λ e. (digit_black (get_or s 0 0) h, λ k. first_digit s h (sym m.ensures ∙ not-true m.result e))
