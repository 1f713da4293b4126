-- Numbers in decimal, and the markers of items.
use Prim.Native.Nat.{ℕ, ◌+◌, ◌/◌, ◌%◌, ◌≤◌, ◌<◌}
use mathlib.Core.Path.{◌≡◌, ap, ◌∙◌}
use mathlib.Core.List.{List, [], ◌∷◌}
use native.Mathlib.Omega.{arith}
use Rattle.spec.specs.Bytes.{decimal}
use Rattle.spec.specs.Decimal.{decimal_one, decimal_more}
use Rattle.spec.specs.Out.{push, and_then}
use Rattle.text.proofs.Writing.{push_both}

pub last_only : (n : ℕ) (t : List ℕ) → n < 10 → push (decimal n) t ≡ push ((48 + n % 10) ∷ []) t
last_only n t h =
    let q : 48 + n ≡ 48 + n % 10 = omega arith in
    ap (λ (x : List ℕ). push x t) (decimal_one n h ∙ ap (λ (b : ℕ). b ∷ []) q)

pub last_behind : (n : ℕ) (t : List ℕ) → 10 ≤ n → push (decimal n) t ≡ and_then (push (decimal (n / 10)) t) (push ((48 + n % 10) ∷ []))
last_behind n t h = ap (λ (x : List ℕ). push x t) (decimal_more n h) ∙ push_both (decimal (n / 10)) ((48 + n % 10) ∷ []) t
