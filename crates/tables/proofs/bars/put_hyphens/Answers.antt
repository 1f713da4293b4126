use Rattle.std.proofs.Common.{ℕ, replicate, ap, ◌∙◌}
use Rattle.tables.specs.Puts.{bar}
use Rattle.tables.proofs.Putting.{puts_next, puts_text, bar_is}
use Rattle.tables.proofs.bars.put_hyphens.Goals as goal

pub returns : goal.returns
returns c =
    puts_text (bar_is _ ∙ ap (λ (k : ℕ). bar (replicate k 45)) c.at_least_one.ensures)
    (puts_next c.put_byte.ensures (puts_next c.put_repeated.ensures c.put_bar.ensures))
