use Rattle.std.proofs.Common.{◌≡◌, true, false, rules}
use borrow.Author.Tests.{tests}
use Rattle.std.proofs.lemmas.Iterator.{IsFirst-from_position, YieldsList-from_slice}
use Rattle.text.proofs.Finding.{skipped_by}
use Rattle.text.proofs.buffer.trim_start_matches.Goals as goal

pub returns : goal.returns
returns g c =
    let p = g.C.ByteClass.holds in
    rw c.unwrap_or.ensures (skipped_by p c.args.s.now _ (IsFirst-from_position _ _ _ (λ x. p x ≡ false) (λ x. p x ≡ true) c.position.ensures.ran (YieldsList-from_slice c.args.s.now cc) (λ x q k. search (rules, tests)) (λ x q k. search (rules, tests))))
