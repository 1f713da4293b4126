use Prim.Native.Nat.{ℕ, ◌-◌}
use mathlib.Core.Path.{◌≡◌, sym, ap, ◌∙◌}
use mathlib.Core.Bool.{Bool, true, ◌||◌, and-true, and-eq-true_iff}
use lib.ListN.{get_or, take}
use lib.Seq.{get_or-take, length-take-le}
use lib.Dec.{eqb}
use Rattle.spec.specs.Bytes.{white, isin}
use Rattle.text.specs.Flow.{kept, plain}
use native.Mathlib.Omega.{arith}
use Rattle.normalized.proofs.fast_copy.is_whole.Goals as goal

-- before a letter
last : (escape : Bool) (b : ℕ) → plain escape b 97 ≡ true → kept escape b || eqb b 32 ≡ true
unfolding white isin
last escape b h = ap (λ (t : Bool). kept escape b || t) (sym (and-true (eqb b 32))) ∙ h

pub returns : goal.returns
returns c =
    let a = c.args in
    let s = a.s.now in
    let m = a.n - 1 in
    let plain = c.is_plain_part in
    λ e.
    let q = (and-eq-true_iff plain.result c.is_plain_last.result).0 e in
    let at : get_or (take a.n s) m 0 ≡ get_or s m 0 = get_or-take a.n s m 0 (omega arith) in
    record {
      last = m;
      long = omega (arith, length-take-le a.n s c.requires.1);
      flows = plain.ensures q.0 m (omega arith);
      ends = ap (λ (x : ℕ). kept a.escape x || eqb x 32) at ∙ last a.escape (get_or s m 0) (c.is_plain_last.ensures q.1);
    }
