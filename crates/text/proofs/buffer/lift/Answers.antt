use Rattle.text.proofs.Moving.{raised_none, raised_on, raised_all}
use Rattle.text.proofs.buffer.lift.Goals as goal

pub loop-i-init : goal.loop-i-init
loop-i-init c =
    let a = c.args in
    raised_none a.text.now a.from a.n a.to

pub loop-i-preserved : goal.loop-i-preserved
loop-i-preserved c =
    let a = c.args in
    let l = c.loop-i in
    raised_on a.text.now a.from a.n a.to c.requires.0 c.requires.1 l.text l.i c.loop-i-test.true l.auto.i l.invariant

pub returns : goal.returns
returns c =
    let a = c.args in
    let l = c.loop-i in
    raised_all a.text.now a.from a.n a.to c.requires.0 c.requires.1 l.text l.i c.loop-i-test.false l.invariant
