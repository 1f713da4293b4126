use Rattle.std.proofs.Common.{sym}
use Rattle.input.proofs.ByTag.{of_open, of_text}
use Rattle.input.proofs.Splitting.{same_eq}
use Rattle.input.proofs.sound.is_ruled.Goals as goal

pub returns-then-tag-eq-TEXT : goal.returns-then-tag-eq-TEXT
returns-then-tag-eq-TEXT c depth = rw c.if-tag-eq-TEXT.true (sym (of_text c.args.before depth _))

pub returns-then-before-is_empty : goal.returns-then-before-is_empty
returns-then-before-is_empty c depth = rw (c.if-tag-eq-OPEN.true, of_open c.args.before depth c.args.body.now, ← c.is_empty.ensures, c.if-before-is_empty.true)

pub returns-then-tag-eq-OPEN : goal.returns-then-tag-eq-OPEN
returns-then-tag-eq-OPEN c depth =
    rw (c.if-tag-eq-OPEN.true, of_open c.args.before depth c.args.body.now, ← c.is_empty.ensures, c.if-before-is_empty.false, c.ne.ensures, same_eq)
