use mathlib.Core.Path.{sym, ◌∙◌}
use native.Mathlib.Omega.{arith}
use lib.ListN.{get_or}
use Rattle.normalized.proofs.Starting.{dot_here, dot_at_end, dot_before}
use Rattle.normalized.proofs.line_start.is_last_dot.Goals as goal

pub returns-then-not-s-i : goal.returns-then-not-s-i
returns-then-not-s-i c =
    let a = c.args in
    let x = get_or a.s.now a.i 0 in
    sym (dot_here a.s.now a.i c.requires ∙ rw (c.if-not-s-i.true))

pub returns-then-s-i : goal.returns-then-s-i
returns-then-s-i c =
    let a = c.args in
    let x = get_or a.s.now a.i 0 in
    sym (dot_at_end a.s.now a.i (omega (arith, c.if-s-i.true)) (c.if-not-s-i.false))

pub returns : goal.returns
returns c =
    let a = c.args in
    let x = get_or a.s.now a.i 0 in
    c.has.ensures ∙ sym (dot_before a.s.now a.i (omega (arith, c.requires, c.if-s-i.false)) (c.if-not-s-i.false))
