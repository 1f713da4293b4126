use Rattle.std.proofs.Common.{List, ℕ, subst, arith}
use lib.Seq.{length-take-le}
use Rattle.normalized.proofs.Flowing.{plain_part, plain_here}
use Rattle.text.specs.Flow.{Plain}
use Rattle.normalized.proofs.fast_copy.is_plain_part.Goals as goal

pub returns-in_default : goal.returns-in_default
returns-in_default c = λ e m z. c.is_plain_text.ensures e m (omega (arith, z, length-take-le c.args.n c.args.s.now c.requires.1))

pub returns-in-Some : goal.returns-in-Some
returns-in-Some c =
    let a = c.args in
    let p = c.requires in let v = c.in-Some.ensures.cases in
    λ e m q.
    record {
      within = omega (arith, q, length-take-le a.n a.s.now p.1);
      each = λ i h. plain_part a.escape a.s.now 0 a.n i p.1 (omega arith)
          (plain_here a.escape a.s.now 0 17 i v.enough (subst (λ (x : List ℕ). Plain a.escape x i) v.same (c.is_plain_front.ensures e i (omega (arith, c.if-n-le16.true)) (omega arith))));
    }
