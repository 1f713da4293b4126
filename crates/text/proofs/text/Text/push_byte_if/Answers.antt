use Rattle.std.proofs.Common.{[], ◌∷◌, Bool, cond, ap}
use Rattle.spec.specs.Out.{push}
use Rattle.text.specs.Texts.{bytes}
use Rattle.text.proofs.Texts.{as_step, pushes_nothing}
use Rattle.text.proofs.text.Text.push_byte_if.Goals as goal

pub returns-else-wanted : goal.returns-else-wanted
returns-else-wanted c =
    as_step (ap (λ (t : Bool). push (cond t (c.args.b ∷ []) []) (bytes c.args.self.now)) c.if-wanted.false) (pushes_nothing c.args.self.now)
