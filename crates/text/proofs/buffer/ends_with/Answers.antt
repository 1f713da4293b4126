use Rattle.std.proofs.Common.{◌∙◌}
use Rattle.spec.specs.Bytes.{ends_with}
use Rattle.text.proofs.Reading.{same_pointwise}
use Rattle.text.proofs.buffer.ends_with.Goals as goal

pub returns : goal.returns
unfolding ends_with
returns c = c.ends_with.ensures.value ∙ same_pointwise c.args.x.now _
