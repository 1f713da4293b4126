use Rattle.std.proofs.Common.{Bool, cond, [], ap}
use Rattle.spec.specs.Out.{push}
use Rattle.text.specs.Texts.{bytes}
use Rattle.text.proofs.Texts.{as_step, pushes_nothing}
use Rattle.marks.proofs.emphasis.push_marker.Goals as goal

pub returns-else-not-merged : goal.returns-else-not-merged
returns-else-not-merged c =
    let t = c.args.text.now in as_step (ap (λ (b : Bool). push (cond b [] c.args.marker.now) (bytes t)) c.if-not-merged.false) (pushes_nothing t)
