-- The digits of a number, one at a time.
use Rattle.std.specs.Prelude.{ℕ, zero, suc, ◌+◌, ◌*◌, ◌/◌, ◌%◌, ◌≤◌, ◌<◌, ◌≡◌, refl, [], ◌∷◌, ◌++◌, Bool, true, false, ltb, length}
use Rattle.std.proofs.Common.{ap, ◌∙◌, arith, lt-ltb, le-ltb, ltb-true, ltb-false, length-append}
use Rattle.spec.specs.Bytes.{Bytes, digits_of, decimal}

-- n has one digit, or more
pub few : {P : Type 0} (n : ℕ) → (n < 10 → P) → (10 ≤ n → P) → P
few {P} n f g = go (ltb n 10) refl
  where
    go : (t : Bool) → ltb n 10 ≡ t → P
    go true e = f (ltb-true n 10 e)
    go false e = g (ltb-false n 10 e)

-- where there is room for all of them, more room changes nothing
enough : (k j n : ℕ) → n < k → n < j → digits_of k n ≡ digits_of j n
unfolding digits_of
enough zero j n h l = absurd (omega arith)
enough (suc k) zero n h l = absurd (omega arith)
enough (suc k) (suc j) n h l =
    few n
    (λ (s : n < 10). simp (lt-ltb n 10 s))
    (λ (s : 10 ≤ n). simp (le-ltb n 10 s) (ap (λ (x : Bytes). x ++ ((48 + n % 10) ∷ [])) (enough k j (n / 10) (omega arith) (omega arith))))

pub decimal_one : (n : ℕ) → n < 10 → decimal n ≡ (48 + n) ∷ []
unfolding decimal digits_of
decimal_one n h = simp (lt-ltb n 10 h)

pub decimal_more : (n : ℕ) → 10 ≤ n → decimal n ≡ decimal (n / 10) ++ ((48 + n % 10) ∷ [])
unfolding decimal digits_of
decimal_more n h = simp (le-ltb n 10 h) (ap (λ (x : Bytes). x ++ ((48 + n % 10) ∷ [])) (enough n (suc (n / 10)) (n / 10) (omega arith) (omega arith)))

pub length_one : (n : ℕ) → n < 10 → length (decimal n) ≡ 1
length_one n h = ap length (decimal_one n h)

pub length_more : (n : ℕ) → 10 ≤ n → length (decimal n) ≡ length (decimal (n / 10)) + 1
length_more n h = ap length (decimal_more n h) ∙ length-append (decimal (n / 10)) ((48 + n % 10) ∷ [])

-- ten times ten, k times
abbrev tens : ℕ → ℕ
tens zero = 10
tens (suc k) = tens k * 10

pub length_most : (k n : ℕ) → n < tens k → length (decimal n) ≤ suc k
length_most zero n h = omega (arith, length_one n h)
length_most (suc k) n h =
    few n
    (λ (s : n < 10). omega (arith, length_one n s))
    (λ (s : 10 ≤ n). omega (arith, length_more n s, length_most k (n / 10) (omega arith)))

-- a list number has at most nine
pub length_nine : (n : ℕ) → n ≤ 999999999 → length (decimal n) ≤ 9
length_nine n h = length_most 8 n (omega arith)

-- a u32 has at most ten
pub length_ten : (n : ℕ) → n < 4294967296 → length (decimal n) ≤ 10
length_ten n h = length_most 9 n (omega arith)

pub length_least : (n : ℕ) → 1 ≤ length (decimal n)
length_least n = few n (λ s. omega (arith, length_one n s)) (λ s. omega (arith, length_more n s))
