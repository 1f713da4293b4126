use Rattle.std.proofs.Common.{refl, arith}
use Rattle.text.proofs.Parts.{lifted_to}
use Rattle.elements.specs.LinkStep.{plain_step}
use Rattle.elements.proofs.link.push_blank_link.Goals as goal

pub returns : goal.returns
returns c = lifted_to (omega arith) c.requires refl c.lift.ensures refl refl (plain_step c.args.opts) c.push_plain.ensures
