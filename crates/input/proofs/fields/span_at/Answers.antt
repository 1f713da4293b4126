use mathlib.Core.Path.{refl}
use borrow.Author.Tests.{lt-ltb, le-ltb}
use native.Mathlib.Omega.{arith}
use Rattle.input.proofs.fields.span_at.Goals as goal

pub returns-then-left-n : goal.returns-then-left-n
returns-then-left-n c =
    let e = c.length_at-n.ensures.0 in
    record { at = simp (lt-ltb _ _ (rw e at c.if-left-n.true)); begins = refl; behind = omega arith; inside = omega arith }

pub returns : goal.returns
returns c =
    let e = c.length_at-n.ensures.0 in
    record { at = simp (e, le-ltb _ _ (rw e at c.if-left-n.false)); begins = refl; behind = omega arith; inside = omega arith }
