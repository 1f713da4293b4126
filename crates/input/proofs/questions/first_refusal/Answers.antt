use Rattle.std.proofs.Common.{◌∙◌}
use Rattle.input.proofs.Sounding.{sound_refusal}
use Rattle.input.proofs.questions.first_refusal.Goals as goal

pub returns-in-Some : goal.returns-in-Some
returns-in-Some c = c.refusal_of_sound.ensures ∙ sound_refusal _ _ _ _ _ c.in-Some.ensures
