use Rattle.std.proofs.Common.{sym, ◌∙◌}
use Rattle.input.proofs.Sequences.{all_ascii}
use Rattle.input.proofs.utf8.is_utf8.Goals as goal

pub returns-then-is_ascii : goal.returns-then-is_ascii
returns-then-is_ascii c = c.if-is_ascii.true ∙ all_ascii c.args.s.now (sym c.is_ascii.ensures ∙ c.if-is_ascii.true)
