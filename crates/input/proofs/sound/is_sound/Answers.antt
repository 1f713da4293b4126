use Rattle.std.proofs.Common.{sym, ◌∙◌}
use Rattle.input.proofs.ByTag.{sound_utf8, no_utf8}
use Rattle.input.proofs.sound.is_sound.Goals as goal

pub returns-then-is_utf8_part : goal.returns-then-is_utf8_part
returns-then-is_utf8_part c depth = c.is_ruled.ensures depth ∙ sound_utf8 _ depth _ _ (sym c.is_utf8_part.ensures ∙ c.if-is_utf8_part.true)

pub returns-else-is_utf8_part : goal.returns-else-is_utf8_part
returns-else-is_utf8_part c depth = c.if-is_utf8_part.false ∙ no_utf8 _ depth _ _ (sym c.is_utf8_part.ensures ∙ c.if-is_utf8_part.false)
