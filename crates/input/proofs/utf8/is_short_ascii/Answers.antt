use Rattle.std.proofs.Common.{◌≡◌, take, sym, ◌∙◌, ap, rules}
use Rattle.spec.specs.Bytes.{every}
use Rattle.input.specs.Lead.{is_ascii}
use Rattle.input.proofs.Sequences.{ascii_less}
use Rattle.input.proofs.utf8.is_short_ascii.Goals as goal

pub returns-then-n-le16 : goal.returns-then-n-le16
returns-then-n-le16 c h =
    let first : c.in-Some.block.now ≡ take 16 c.args.s.now = search rules in
    ascii_less c.args.n 16 c.args.s.now c.if-n-le16.true (sym (ap (every is_ascii) first) ∙ sym c.is_ascii.ensures ∙ h)
