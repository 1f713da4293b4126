use Rattle.std.proofs.Common.{◌∙◌}
use Rattle.spec.specs.Bytes.{starts_with}
use Rattle.text.proofs.Reading.{same_pointwise}
use Rattle.text.proofs.buffer.starts_with.Goals as goal

pub returns : goal.returns
unfolding starts_with
returns c = c.starts_with.ensures.value ∙ same_pointwise c.args.x.now _
