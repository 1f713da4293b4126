use Prim.Native.Nat.{ℕ, zero, suc, ◌<◌}
use mathlib.Core.Path.{◌≡◌, sym, ap}
use mathlib.Core.Bool.{Bool, false, not, ◌||◌, false≢true}
use lib.Dec.{eqb}
use native.Mathlib.Omega.{arith}
use Rattle.normalized.proofs.fast_copy.is_verbatim.Goals as goal

some : (n : ℕ) (long : Bool) → eqb n 0 || long ≡ false → 0 < n
some zero long e = absurd (false≢true (sym e))
some (suc n) long e = omega arith

pub returns : goal.returns
returns c =
    let a = c.args in
    λ e opts skip item. c.may_begin.ensures (c.if-not-may_begin.false) (c.is_whole.ensures e) opts (ap not skip) item
