use mathlib.Core.Path.{refl}
use Rattle.serializer.specs.Options.{unpacked}
use Rattle.serializer.proofs.options.PackedOpts.opts.Goals as goal

pub returns : goal.returns
unfolding unpacked
returns c = refl
