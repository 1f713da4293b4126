use Rattle.std.proofs.Common.{ℕ, take, ap}
use Rattle.spec.specs.Out.{push}
use Rattle.text.specs.Texts.{bytes}
use Rattle.text.proofs.Texts.{as_step, pushes_nothing}
use Rattle.normalized.proofs.normalize.push_some.Goals as goal

pub returns-else-n-ne0 : goal.returns-else-n-ne0
returns-else-n-ne0 c =
    let a = c.args in as_step (ap (λ (k : ℕ). push (take k a.s.now) (bytes a.text.now)) c.if-n-ne0.false) (pushes_nothing a.text.now)
