use Rattle.std.proofs.Common.{ℕ, List, take, ap, ◌∙◌, arith}
use Rattle.tables.specs.Puts.{bar}
use Rattle.tables.proofs.Putting.{puts_next, puts_text, puts_end, puts_behind, bar_is}
use Rattle.tables.proofs.bars.put_cell.Goals as goal

pub returns : goal.returns
returns c =
    let a = c.args in
    let same = puts_behind a.src c.put_byte.ensures (omega (arith, puts_end c.put_byte.ensures, c.requires.0)) in
    puts_text (bar_is _ ∙ ap (λ (x : List ℕ). bar (take a.n x)) same)
    (puts_next c.put_byte.ensures (puts_next c.put_from.ensures c.put_bar.ensures))
