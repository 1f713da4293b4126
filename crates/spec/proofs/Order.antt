-- Lemmas about order and differences of numbers.
use Prim.Native.Nat.{ℕ, zero, suc, ◌-◌, ◌≤◌, ◌<◌}
use native.Mathlib.Omega.{arith}
use native.Mathlib.Nat.{eq-zero-or-pos}
use mathlib.Core.Path.{◌≡◌}
use mathlib.Core.Logic.{⊎_elim, ◌⊎◌}
use mathlib.Core.Logic.◌⊎◌.{inl, inr}

pub le_or_lt : (a b : ℕ) → (a ≤ b) ⊎ (b < a)
le_or_lt a b = ⊎_elim (λ (e : a - b ≡ zero). inl (omega arith)) (λ (l : zero < a - b). inr (omega arith)) (eq-zero-or-pos (a - b))

pub one_less : (n : ℕ) → suc n - 1 ≡ n
one_less n = omega arith
