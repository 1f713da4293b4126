-- Decimal digits: what `decimal` writes of a number, and how many digits that is.
use Rattle.std.specs.Prelude.{ℕ, zero, suc, ◌+◌, ◌-◌, ◌*◌, ◌/◌, ◌%◌, ◌≤◌, ◌<◌, ◌≡◌, refl, Bool, true, false, ◌⊎◌, [], ◌∷◌, ◌++◌, ltb, length}
use Rattle.std.proofs.Common.{arith, div-add-mod', mod-lt, inl, inr, ⊎_elim, le-leb, ltb-true, ltb-false}
use Rattle.spec.specs.Bytes.{Bytes, every, digit, value_from, decimal}
use Rattle.spec.specs.Decimal.{few, decimal_one, decimal_more, length_one, length_more}
use Rattle.spec.proofs.Tests.{every_app}

-- ---- the value

value_snoc : (v : ℕ) (a : Bytes) (x : ℕ) → value_from v (a ++ (x ∷ [])) ≡ value_from v a * 10 + (x - 48)
unfolding value_from
value_snoc v [] x = refl
value_snoc v (b ∷ a) x = value_snoc (v * 10 + (b - 48)) a x

value_one : (n : ℕ) → value_from 0 ((48 + n) ∷ []) ≡ n
unfolding value_from
value_one n = omega arith

value_below : (k n : ℕ) → n < k → value_from 0 (decimal n) ≡ n
value_below zero n h = absurd (omega arith)
value_below (suc k) n h =
    few n
    (λ s. rw (decimal_one n s) (value_one n))
    (λ s. rw (decimal_more n s, value_snoc 0 (decimal (n / 10)) (48 + n % 10), value_below k (n / 10) (omega arith)) (omega (arith, div-add-mod' n 10)))

-- digits written and read give the number
pub decimal_value : (n : ℕ) → value_from 0 (decimal n) ≡ n
decimal_value n = value_below (suc n) n (omega arith)

-- ---- the bytes

digit_of : (n : ℕ) → n < 10 → every digit ((48 + n) ∷ []) ≡ true
unfolding digit every
digit_of n h = rw (le-leb 48 (48 + n) (omega arith), le-leb (48 + n) 57 (omega arith))

digits_below : (k n : ℕ) → n < k → every digit (decimal n) ≡ true
digits_below zero n h = absurd (omega arith)
digits_below (suc k) n h =
    few n
    (λ s. rw (decimal_one n s) (digit_of n s))
    (λ s. rw (decimal_more n s) (every_app digit (decimal (n / 10)) _ (digits_below k (n / 10) (omega arith)) (digit_of (n % 10) (mod-lt n (omega arith)))))

pub decimal_digits : (n : ℕ) → every digit (decimal n) ≡ true
decimal_digits n = digits_below (suc n) n (omega arith)

-- ---- how many

-- one more than a number has as many digits, or one more
step_div : (n : ℕ) → (suc n / 10 ≡ n / 10) ⊎ (suc n / 10 ≡ suc (n / 10))
step_div n = go (ltb (n / 10) (suc n / 10)) refl
  where
    go : (t : Bool) → ltb (n / 10) (suc n / 10) ≡ t → (suc n / 10 ≡ n / 10) ⊎ (suc n / 10 ≡ suc (n / 10))
    go true e = inr (omega (arith, ltb-true (n / 10) (suc n / 10) e))
    go false e = inl (omega (arith, ltb-false (n / 10) (suc n / 10) e))

abbrev pub Near : ℕ → ℕ → Type 0
Near a b = (a ≤ b) × (b ≤ suc a)

near_below : (k n : ℕ) → n < k → Near (length (decimal n)) (length (decimal (suc n)))
near_below zero n h = absurd (omega arith)
near_below (suc k) n h =
    few n
    (λ s. few (suc n)
    (λ z. omega (arith, length_one n s, length_one (suc n) z))
    (λ z. omega (arith, length_one n s, length_more (suc n) z, length_one (suc n / 10) (omega arith))))
    (λ s. ⊎_elim
    (λ e. rw (length_more n s, length_more (suc n) (omega arith), e) (omega arith))
    (λ e. rw (length_more n s, length_more (suc n) (omega arith), e) (omega (arith, near_below k (n / 10) (omega arith))))
    (step_div n))

pub decimal_next : (n : ℕ) → Near (length (decimal n)) (length (decimal (suc n)))
decimal_next n = near_below (suc n) n (omega arith)
