-- List numbers: the writer's `parse_list_number` is the number of document 01, for every value.
use Rattle.std.specs.Prelude.{ℕ, zero, suc, ◌+◌, ◌-◌, ◌*◌, ◌≤◌, ◌<◌, min, ◌≡◌, refl, Bool, true, false, cond, ◌&&◌, ◌||◌, List, [], ◌∷◌, eqb, leb, ltb, length, drop}
use Rattle.std.proofs.Common.{arith, ap, eqb-true, ltb-true, leb-true}
use Rattle.std.proofs.Math.Option.{Option, none, some}
use Rattle.std.proofs.lemmas.Bool.{eqb-false}
use Rattle.spec.specs.Bytes.{Bytes, ascii, null, same, every, starts_with, white, digit, trim_start_matches, trim_ascii_start, take_while, value_from}
use Rattle.spec.specs.ListNumber.{largest_number, digits_value, positive, negative, signed_value, list_number, as_number, or_else}
use Rattle.spec.specs.Tree.{Attr, attr}
use Rattle.spec.specs.Md.Elements.List.{clamped, parse_list_number, number_of, number_or, start_of}
use Rattle.spec.proofs.Tests.{and_l, and_r}

-- ---- numbers of more than nine digits

-- m with k zeros behind it
unfoldable scaled : ℕ → ℕ → ℕ
scaled m zero = m
scaled m (suc k) = scaled (m * 10) k

value_grows : (v : ℕ) (s : Bytes) → v ≤ value_from v s
unfolding value_from
value_grows v [] = omega arith
value_grows v (b ∷ s) = omega (arith, value_grows (v * 10 + (b - 48)) s)

value_least : (k m v : ℕ) (s : Bytes) → m ≤ v → k ≤ length s → scaled m k ≤ value_from v s
unfolding scaled value_from
value_least zero m v s p q = omega (arith, value_grows v s)
value_least (suc k) m v [] p q = absurd (omega arith)
value_least (suc k) m v (b ∷ s) p q = value_least k (m * 10) (v * 10 + (b - 48)) s (omega arith) (omega arith)

unfoldable significant : Bytes → Bytes
significant ds = trim_start_matches (λ b. eqb b 48) ds

-- leading zeros change no value
value_significant : (ds : Bytes) → value_from 0 (significant ds) ≡ value_from 0 ds
unfolding significant value_from trim_start_matches
value_significant [] = refl
value_significant (b ∷ ds) = go (eqb b 48) refl (value_significant ds)
  where
    go : (t : Bool) → eqb b 48 ≡ t → value_from 0 (significant ds) ≡ value_from 0 ds
        → value_from 0 (cond t (trim_start_matches (λ b. eqb b 48) ds) (b ∷ ds)) ≡ value_from (0 * 10 + (b - 48)) ds
    go true e ih = rw (eqb-true b 48 e) ih
    go false e ih = refl

nonzero : (b : ℕ) → digit b ≡ true → eqb b 48 ≡ false → 1 ≤ 0 * 10 + (b - 48)
unfolding digit
nonzero b h e = omega (arith, eqb-false b 48 e, leb-true 48 b (and_l (leb 48 b) _ h))

-- more than nine digits behind the zeros: the largest number is passed
significant_long : (ds : Bytes) → every digit ds ≡ true → 9 < length (significant ds) → 1000000000 ≤ value_from 0 ds
unfolding significant value_from trim_start_matches every scaled
significant_long [] h p = absurd (omega arith)
significant_long (b ∷ ds) h p = go (eqb b 48) refl p (significant_long ds (and_r (digit b) _ h))
  where
    go : (t : Bool) → eqb b 48 ≡ t → 9 < length (cond t (trim_start_matches (λ b. eqb b 48) ds) (b ∷ ds))
        → (9 < length (significant ds) → 1000000000 ≤ value_from 0 ds) → 1000000000 ≤ value_from (0 * 10 + (b - 48)) ds
    go true e q ih = rw (eqb-true b 48 e) (ih q)
    go false e q ih = value_least 9 1 (0 * 10 + (b - 48)) ds (nonzero b (and_l (digit b) _ h) e) (omega arith)

-- document 01: "Over nine digits after leading zeros: 999,999,999."
clamped_value : (ds : Bytes) → every digit ds ≡ true → clamped (significant ds) ≡ min (value_from 0 ds) largest_number
unfolding clamped largest_number
clamped_value ds h = go (ltb 9 (length (significant ds))) refl
  where
    go : (t : Bool) → ltb 9 (length (significant ds)) ≡ t
        → cond t 999999999 (min (value_from 0 (significant ds)) 999999999) ≡ min (value_from 0 ds) 999999999
    go true e = omega (arith, significant_long ds h (ltb-true 9 _ e))
    go false e = rw (value_significant ds)

-- ---- digits

digits_taken : (s : Bytes) → every digit (take_while digit s) ≡ true
unfolding every take_while
digits_taken [] = refl
digits_taken (b ∷ s) = go (digit b) refl (digits_taken s)
  where
    go : (t : Bool) → digit b ≡ t → every digit (take_while digit s) ≡ true → every digit (cond t (b ∷ take_while digit s) []) ≡ true
    go true e ih = rw e ih
    go false e ih = refl

-- what `parse_list_number` makes of the bytes behind the sign
unfoldable parsed : Bool → Bytes → Option ℕ
parsed neg s =
    cond (null (take_while digit s)) none (some (cond neg 0 (clamped (trim_start_matches (λ b. eqb b 48) (take_while digit s)))))

parsed_negative : (s : Bytes) → parsed true s ≡ negative (digits_value s)
unfolding parsed digits_value negative take_while null
parsed_negative [] = refl
parsed_negative (b ∷ s) = go (digit b)
  where
    go : (t : Bool) → cond (null (cond t (b ∷ take_while digit s) [])) none (some 0)
        ≡ negative (cond t (some (value_from 0 (cond t (b ∷ take_while digit s) []))) none)
    go true = refl
    go false = refl

parsed_positive : (s : Bytes) → parsed false s ≡ positive (digits_value s)
unfolding parsed digits_value positive take_while null significant every
parsed_positive [] = refl
parsed_positive (b ∷ s) = go (digit b) refl
  where
    go : (t : Bool) → digit b ≡ t
        → cond (null (cond t (b ∷ take_while digit s) [])) none
        (some (clamped (trim_start_matches (λ b. eqb b 48) (cond t (b ∷ take_while digit s) []))))
        ≡ positive (cond t (some (value_from 0 (cond t (b ∷ take_while digit s) []))) none)
    go true e = ap some (clamped_value (b ∷ take_while digit s) (rw e (digits_taken s)))
    go false e = refl

-- ---- the sign

parsed_signed : (s : Bytes)
    → parsed (starts_with (ascii "-") s) (cond (starts_with (ascii "-") s || starts_with (ascii "+") s) (drop 1 s) s) ≡ signed_value s
unfolding starts_with same signed_value parsed take_while null
parsed_signed [] = refl
parsed_signed (b ∷ s) = go (eqb b 45) (eqb b 43)
  where
    go : (t u : Bool) → parsed (t && true) (cond ((t && true) || (u && true)) s (b ∷ s))
        ≡ cond t (negative (digits_value s)) (cond u (positive (digits_value s)) (positive (digits_value (b ∷ s))))
    go true u = parsed_negative s
    go false true = parsed_positive s
    go false false = parsed_positive (b ∷ s)

-- `parse_list_number` gives the list number of document 01
pub list_number_lem : (value : Bytes) → parse_list_number value ≡ list_number value
unfolding parse_list_number list_number trim_ascii_start parsed
list_number_lem value = parsed_signed (trim_start_matches white value)

-- an attribute's value as a number, and a list's start, likewise
pub number_of_lem : (value : Option Bytes) → number_of value ≡ as_number value
unfolding number_of as_number
number_of_lem none = refl
number_of_lem (some s) = list_number_lem s

pub number_or_lem : (number : Option ℕ) (n : ℕ) → number_or number n ≡ or_else number n
unfolding number_or or_else
number_or_lem none n = refl
number_or_lem (some m) n = refl

pub start_of_lem : (attrs : List Attr) → start_of attrs ≡ or_else (as_number (attr (ascii "start") attrs)) 1
unfolding start_of
start_of_lem attrs = rw (number_of_lem, number_or_lem)
