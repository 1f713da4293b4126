use Rattle.std.proofs.Common.{◌≤◌, ◌*◌, sym, ◌∙◌, rules}
use Rattle.input.proofs.Sequences.{ascii_less}
use Rattle.input.proofs.utf8.is_ascii_part.Goals as goal

pub returns-then-is_ascii : goal.returns-then-is_ascii
returns-then-is_ascii c h =
    let enough : c.args.n ≤ c.div_ceil-blocks.result * 16 = search rules in
    ascii_less c.args.n (c.div_ceil-blocks.result * 16) c.args.s.now enough (sym c.is_ascii-then-is_ascii.ensures ∙ h)
