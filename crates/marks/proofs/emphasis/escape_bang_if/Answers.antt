use Rattle.std.proofs.Common.{Bool, ap}
use Rattle.marks.specs.Marked.{bang_if}
use Rattle.text.specs.Texts.{bytes}
use Rattle.text.proofs.Texts.{as_step, kept}
use Rattle.marks.proofs.emphasis.escape_bang_if.Goals as goal

pub returns-else-bang : goal.returns-else-bang
returns-else-bang c = let t = c.args.text.now in as_step (ap (λ (b : Bool). bang_if b (bytes t)) c.if-bang.false) (kept t)
