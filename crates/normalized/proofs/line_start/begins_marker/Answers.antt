use mathlib.Core.Path.{sym, ◌∙◌}
use Rattle.normalized.proofs.Starting.{marker_begun, tail_on, tail_here, tail_none}
use Rattle.normalized.proofs.line_start.begins_marker.Goals as goal

pub loop-i-init : goal.loop-i-init
loop-i-init c =
    let s = c.args.s.now in
    marker_begun s c.requires

pub returns-then-not-has : goal.returns-then-not-has
returns-then-not-has c =
    let s = c.args.s.now in
    let l = c.loop-i in
    let d = c.has in
    c.is_last_dot.ensures
    ∙ sym (l.invariant ∙ tail_here s l.i c.loop-i-test.true (sym d.ensures ∙ c.if-not-has.true))

pub loop-i-preserved : goal.loop-i-preserved
loop-i-preserved c =
    let s = c.args.s.now in
    let l = c.loop-i in
    let d = c.has in
    l.invariant ∙ tail_on s l.i c.loop-i-test.true (sym d.ensures ∙ c.if-not-has.false)

pub returns : goal.returns
returns c =
    let l = c.loop-i in
    sym (l.invariant ∙ tail_none c.args.s.now l.i c.loop-i-test.false)
