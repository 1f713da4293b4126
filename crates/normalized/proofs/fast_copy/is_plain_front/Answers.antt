use Rattle.std.proofs.Common.{◌≡◌, true, arith}
use lib.Dec.{leb}
use borrow.Author.Tests.{leb-true}
use Rattle.normalized.proofs.Flowing.{front_next}
use Rattle.normalized.proofs.fast_copy.is_plain_front.Goals as goal

pub loop-i-preserved : goal.loop-i-preserved
loop-i-preserved c =
    let l = c.loop-i in let v = l.invariant in
    (omega (arith, v.0), front_next l.i c.args.n 16 (omega arith) (omega arith) v.1 (λ (e : leb c.args.n l.k ≡ true). omega (arith, v.0, leb-true c.args.n l.k e)) c.is_plain.ensures)
