use mathlib.Core.List.{[], ◌∷◌}
use Rattle.tables.specs.Puts.{bars}
use Rattle.tables.proofs.Putting.{puts_nothing, puts_next, puts_text, puts_end, puts_long, bars_more, length_bars_bytes}
use native.Mathlib.Omega.{arith}
use Rattle.tables.proofs.bars.put_byte_cells.Goals as goal

pub loop-init : goal.loop-init
unfolding bars
loop-init c = puts_nothing c.args.text.now

pub put_byte_cell-requires : goal.put_byte_cell-requires
put_byte_cell-requires c =
    let l = c.loop in
    omega (arith, puts_end l.invariant, puts_long l.invariant, length_bars_bytes c.args.b l.counter, c.loop-test.true, c.requires)

pub loop-preserved : goal.loop-preserved
loop-preserved c =
    puts_text (bars_more (c.args.b ∷ []) c.loop.counter) (puts_next c.loop.invariant c.put_byte_cell.ensures)
