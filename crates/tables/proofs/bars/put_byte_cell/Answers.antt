use Rattle.std.proofs.Common.{[], ◌∷◌}
use Rattle.tables.proofs.Putting.{puts_next, puts_text, bar_is}
use Rattle.tables.proofs.bars.put_byte_cell.Goals as goal

pub returns : goal.returns
returns c = puts_text (bar_is (c.args.b ∷ [])) (puts_next c.put_byte.ensures (puts_next c.put_byte-2.ensures c.put_bar.ensures))
