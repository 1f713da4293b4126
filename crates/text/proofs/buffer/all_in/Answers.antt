use Rattle.std.proofs.Common.{◌≡◌, true, false, rules}
use borrow.Author.Tests.{tests}
use Rattle.std.proofs.lemmas.Iterator.{cases_from_all, YieldsList-from_slice}
use Rattle.text.proofs.Finding.{every_by}
use Rattle.text.proofs.buffer.all_in.Goals as goal

pub returns : goal.returns
returns g c =
    let p = g.C.ByteClass.holds in
    every_by p c.args.s.now _ (cases_from_all _ _ _ (λ x. p x ≡ true) (λ x. p x ≡ false) c.all.ensures.ran (YieldsList-from_slice c.args.s.now cc) (λ x q k. search (rules, tests)) (λ x q k. search (rules, tests)))
