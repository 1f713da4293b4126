use Rattle.std.proofs.Common.{◌≡◌, refl, arith}
use Rattle.std.proofs.lemmas.Grind.{common_steps}
use Rattle.text.proofs.Texts.{full_for, puts}
use Rattle.text.proofs.text.Text.push_all.Goals as goal

pub returns-then-self-src : goal.returns-then-self-src
returns-then-self-src c = full_for c.args.src.now c.if-self-src.true

pub returns : goal.returns
returns c =
    let same : c.loop-i.to ≡ c.args.src.now = grind (arith, common_steps) in
    puts same refl (omega (arith, c.args.self.now.fits, c.if-self-src.false)) refl refl refl
