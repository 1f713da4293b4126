use Rattle.std.proofs.Common.{◌∙◌, sym}
use Rattle.input.proofs.Sequences.{all_ascii}
use Rattle.input.proofs.utf8.is_utf8_part.Goals as goal
use Rattle.input.proofs.utf8.is_utf8_part.Goals.{then-is_short_ascii, else-is_short_ascii}

pub returns-then-is_ascii_part : goal.returns-then-is_ascii_part
returns-then-is_ascii_part c =
    c.if-is_ascii_part.true
    ∙ all_ascii _ (elim c.if-is_short_ascii.branch [
      | then-is_short_ascii w ↦ c.is_short_ascii.ensures w.if-is_short_ascii.true
      | else-is_short_ascii w ↦ w.is_ascii_part.ensures (sym w.value-is ∙ c.if-is_ascii_part.true)
    ])
