-- The balance of parentheses as an i32: the definition's number until it falls below zero.
use Prim.Native.Nat.{ℕ, zero, suc, ◌+◌, ◌-◌, ◌≤◌}
use mathlib.Core.Path.{◌≡◌, refl, sym, ap, ◌∙◌}
use mathlib.Core.Bool.{Bool, true, false, cond, ◌&&◌, false≢true}
use mathlib.Core.Logic.{◌⊎◌, inl, inr, ⊎_elim}
use native.Mathlib.Omega.{arith}
use lib.Dec.{eqb}
use lib.IntN.{ℤ, pos, negsuc, ◌+ℤ◌, ◌-ℤ◌}
use lib.Signed.{lt_z}
use mir.Facts.{to_z-of_z}
use mir.Syntax.{w32}
use mir.Val.{SFits, to_z, of_z}
use borrow.Author.Tests.{eqb-true, le-ltb, ne_eqb}
use Rattle.lists_links.specs.Url.{next_balance}
use Rattle.lists_links.proofs.Linking.{balanced}

pos_fits : (n : ℕ) → n ≤ 1048577 → SFits w32 (pos n)
pos_fits n h = record { sfits = omega arith }

-- a number of that size is what its bits say
kept_bits : (n : ℕ) → n ≤ 1048577 → to_z w32 (of_z w32 (pos n)) ≡ pos n
kept_bits n h = to_z-of_z (pos_fits n h)

minus_one : (n : ℕ) → pos n -ℤ pos 1 ≡ cond (eqb n 0) (negsuc 0) (pos (n - 1))
minus_one zero = refl
minus_one (suc n) =
    ap (λ (t : Bool). cond t (negsuc (1 - suc (suc n))) (pos (suc n - 1))) (le-ltb (suc n) 1 (omega arith))
    ∙ sym (ap (λ (t : Bool). cond t (negsuc 0) (pos (suc n - 1))) (ne_eqb (suc n) 0 (λ q. omega arith)))

grown : (x y : Bool) (n : ℕ) → cond x (n + 1) (cond y (n - 1) n) ≤ n + 1
grown true y n = omega arith
grown false true n = omega arith
grown false false n = omega arith

pub balanced_grown : (n b : ℕ) → balanced n b ≤ n + 1
balanced_grown n b = grown (eqb b 40) (eqb b 41) n

cases : (x y z : Bool) (n : ℕ) {r : ℤ} → (x ≡ true → y ≡ true → ⊥) → r ≡ cond x (pos (n + 1)) (cond y (cond z (negsuc 0) (pos (n - 1))) (pos n))
    → ((r ≡ negsuc 0) × (y && z ≡ true)) ⊎ ((r ≡ pos (cond x (n + 1) (cond y (n - 1) n))) × (y && z ≡ false))
cases true true z n h e = absurd (h refl refl)
cases true false z n h e = inr (e, refl)
cases false true true n h e = inl (e, refl)
cases false true false n h e = inr (e, refl)
cases false false z n h e = inr (e, refl)

module _ (n b : ℕ) (h : n ≤ 1048576) where
  pub next_fits : SFits w32 (pos n +ℤ pos 1) × SFits w32 (pos n -ℤ pos 1)
  next_fits = (pos_fits (n + 1) (omega arith), rw minus_one (go (eqb n 0)))
    where
      go : (t : Bool) → SFits w32 (cond t (negsuc 0) (pos (n - 1)))
      go true = record { sfits = omega arith }
      go false = pos_fits (n - 1) (omega arith)

  module _ {r : ℤ} (e : r ≡ next_balance (pos n) b) where
    next_is : r ≡ cond (eqb b 40) (pos (n + 1)) (cond (eqb b 41) (cond (eqb n 0) (negsuc 0) (pos (n - 1))) (pos n))
    next_is = e ∙ rw (minus_one n)

    next_cases : ((r ≡ negsuc 0) × (eqb b 41 && eqb n 0 ≡ true)) ⊎ ((r ≡ pos (balanced n b)) × (eqb b 41 && eqb n 0 ≡ false))
    next_cases =
        cases (eqb b 40) (eqb b 41) (eqb n 0) n
        (λ p q. let x : b ≡ 40 = eqb-true b 40 p in let y : b ≡ 41 = eqb-true b 41 q in omega arith) next_is

    -- it falls below zero just where the definition's number stays at it
    pub sign : lt_z (to_z w32 (of_z w32 r)) (pos 0) ≡ eqb b 41 && eqb n 0
    sign =
        ⊎_elim (λ p. ap (λ (z : ℤ). lt_z (to_z w32 (of_z w32 z)) (pos 0)) p.0 ∙ sym p.1)
        (λ p. ap (λ (z : ℤ). lt_z (to_z w32 (of_z w32 z)) (pos 0)) p.0
        ∙ ap (λ (z : ℤ). lt_z z (pos 0)) (kept_bits (balanced n b) (omega (arith, balanced_grown n b))) ∙ le-ltb (balanced n b) 0 (omega arith) ∙ sym p.1) next_cases

    pub value : eqb b 41 && eqb n 0 ≡ false → r ≡ pos (balanced n b)
    value f = ⊎_elim (λ p. absurd (false≢true (sym f ∙ p.1))) (λ p. p.0) next_cases

    pub bits : eqb b 41 && eqb n 0 ≡ false → to_z w32 (of_z w32 r) ≡ pos (balanced n b)
    bits f = ap (λ (z : ℤ). to_z w32 (of_z w32 z)) (value f) ∙ kept_bits (balanced n b) (omega (arith, balanced_grown n b))
