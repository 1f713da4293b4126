use Rattle.std.proofs.Common.{◌||◌, Bool, refl, sym, ap, ◌∙◌, get_or}
use Rattle.std.proofs.Math.Bool.{or_assoc, or-false}
use lib.Dec.{eqb}
use Rattle.text.proofs.Reading.{isin_step, isin_none}
use Rattle.text.proofs.buffer.contains_byte.Goals as goal

pub loop-x-init : goal.loop-x-init
loop-x-init c = refl

pub loop-x-preserved : goal.loop-x-preserved
loop-x-preserved c =
    let a = c.args in
    let l = c.loop-x in
    let x = eqb a.b (get_or a.s.now l.x-index 0) in
    l.invariant ∙ (ap (λ (y : Bool). l.found || y) (isin_step a.s.now l.x-index a.b c.loop-x-test.true) ∙ sym (or_assoc l.found x _))

pub returns : goal.returns
returns c =
    let l = c.loop-x in
    sym (l.invariant ∙ (ap (λ (x : Bool). l.found || x) (isin_none c.args.s.now l.x-index c.args.b c.loop-x-test.false) ∙ or-false l.found))
