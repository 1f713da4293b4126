use Rattle.std.proofs.Common.{◌≡◌, take, length, sym, ◌∙◌, ap}
use Rattle.std.proofs.Math.Seq.{take-length}
use Rattle.spec.specs.Bytes.{every}
use Rattle.input.specs.Lead.{is_ascii}
use Rattle.input.proofs.Sequences.{ascii_on}
use Rattle.input.proofs.utf8.due_behind_block.Goals as goal

pub returns-then-is_short_ascii : goal.returns-then-is_short_ascii
returns-then-is_short_ascii c =
    let b = c.args.block.now in
    let whole : take (length b) b ≡ b = take-length b in
    ascii_on c.args.before b c.if-before-eq0.true (sym (ap (every is_ascii) whole) ∙ c.is_short_ascii.ensures c.if-is_short_ascii.true)
