use mathlib.Core.Path.{refl}
use Rattle.spec.specs.Bytes.{isin}
use Rattle.spec.specs.Questions.{may_follow, no_stray}
use Rattle.input.proofs.sound.is_sound_close.Goals as goal

pub returns : goal.returns
unfolding may_follow isin no_stray
returns c = refl
