-- A list number is at most the largest number of document 01's list.
use Prim.Native.Nat.{ℕ, ◌≤◌}
use mathlib.Core.Bool.{Bool, true, false, cond}
use native.Mathlib.Omega.{arith}
use lib.Dec.{ltb}
use lib.ListN.{length}
use Rattle.spec.specs.Bytes.{Bytes}
use Rattle.spec.specs.Md.Elements.List.{clamped}

pub either_most : (b : Bool) {x y n : ℕ} → x ≤ n → y ≤ n → cond b x y ≤ n
either_most true p q = p
either_most false p q = q

pub clamped_most : (digits : Bytes) → clamped digits ≤ 999999999
unfolding clamped
clamped_most digits = either_most (ltb 9 (length digits)) (omega arith) (omega arith)
