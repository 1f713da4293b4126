-- The digits of a list number, and their value.
use Prim.Native.Nat.{ℕ, zero, suc, ◌+◌, ◌-◌, ◌*◌, ◌≤◌, ◌<◌}
use mathlib.Core.Path.{◌≡◌, refl, sym, ap, subst, ◌∙◌}
use mathlib.Core.Bool.{Bool, true, false, cond, ◌||◌, false≢true}
use mathlib.Core.List.{List, [], ◌∷◌, ◌++◌}
use mathlib.Core.Option.{none, some}
use native.Mathlib.Omega.{arith}
use native.Mathlib.Numerals.{add-one}
use borrow.Author.Tests.{leb-true, leb-false}
use lib.Dec.{eqb, leb}
use lib.ListN.{length, take, drop, get_or, length-append, length-drop}
use lib.Seq.{take_at, drop-cons}
use Rattle.spec.specs.Bytes.{null, same, starts_with, digit, take_while, value_from, trim_start_matches}
use Rattle.spec.specs.Md.Elements.List.{clamped}
use Rattle.lists_links.specs.Parsed.{parsed_of, signed, unsigned}
use Rattle.text.specs.Trimmed.{Skipped}
use Rattle.std.specs.Prelude.{Some, None}
use Rattle.input.proofs.Rules.{null_length}

-- what is skipped, and what is left
while_split : (p : ℕ → Bool) (s : List ℕ) → take_while p s ++ trim_start_matches p s ≡ s
unfolding take_while trim_start_matches
while_split p [] = refl
while_split p (b ∷ s) = go (p b) (while_split p s)
  where
    go : (t : Bool) → take_while p s ++ trim_start_matches p s ≡ s → cond t (b ∷ take_while p s) [] ++ cond t (trim_start_matches p s) (b ∷ s) ≡ b ∷ s
    go true e = ap (λ (r : List ℕ). b ∷ r) e
    go false e = refl

pub skipped_while : (p : ℕ → Bool) {s : List ℕ} {n : ℕ} → Skipped s n (trim_start_matches p s) → take n s ≡ take_while p s
skipped_while p {s} {n} k =
    let e : length (take_while p s) ≡ n = omega (arith, length-append (take_while p s) (trim_start_matches p s), ap length (while_split p s), ap length k.is, length-drop n s, k.within) in
    ap (take n) (sym (while_split p s)) ∙ take_at (take_while p s) (trim_start_matches p s) n e

-- ---- the value of digits

pub value_on : (s : List ℕ) (n i : ℕ) → i < length s → value_from n (drop i s) ≡ value_from (n * 10 + (get_or s i 0 - 48)) (drop (i + 1) s)
unfolding value_from
value_on s n i h = rw (drop-cons s i 0 h, add-one i)

pub value_end : (s : List ℕ) (n i : ℕ) → length s ≤ i → value_from n (drop i s) ≡ n
unfolding value_from
value_end [] n zero h = refl
value_end [] n (suc i) h = refl
value_end (x ∷ s) n zero h = absurd (omega arith)
value_end (x ∷ s) n (suc i) h = value_end s n i (omega arith)

-- ten to the power i
abbrev pub ten : ℕ → ℕ
ten zero = 1
ten (suc i) = ten i * 10

pub ten_most : (i j : ℕ) → i ≤ j → ten i ≤ ten j
ten_most zero zero h = omega arith
ten_most (suc i) zero h = absurd (omega arith)
ten_most i (suc j) h = go (leb i j) refl (ten_most i j)
  where
    go : (t : Bool) → leb i j ≡ t → (i ≤ j → ten i ≤ ten j) → ten i ≤ ten (suc j)
    go true e f = omega (arith, f (leb-true i j e))
    go false e f = let q : i ≡ suc j = omega (arith, leb-false i j e) in subst (λ (k : ℕ). ten i ≤ ten k) q (omega arith)

-- ---- what a value says

pub sign_long : (v : List ℕ) → starts_with (45 ∷ []) v || starts_with (43 ∷ []) v ≡ true → 1 ≤ length v
unfolding starts_with same
sign_long [] e = absurd (false≢true e)
sign_long (x ∷ v) e = omega arith

module _ (v : List ℕ) {d : List ℕ} (e : d ≡ take_while digit (unsigned v)) {b : Bool} (l : b ≡ eqb (length d) 0) where
  is_null : null (take_while digit (unsigned v)) ≡ b
  is_null = ap null (sym e) ∙ null_length d ∙ sym l

  pub signed_none : b ≡ true → None ≡ parsed_of (signed v)
  signed_none z = rw (is_null, z)

  module _ (z : b ≡ false) where
    pub signed_minus : starts_with (45 ∷ []) v ≡ true → Some 0 ≡ parsed_of (signed v)
    signed_minus m = rw (is_null, z, m)

    pub signed_plus : starts_with (45 ∷ []) v ≡ false → (k : ℕ) → k ≡ clamped (trim_start_matches (λ b. eqb b 48) d) → Some k ≡ parsed_of (signed v)
    signed_plus m k f =
        let x : ℕ = clamped (trim_start_matches (λ b. eqb b 48) (take_while digit (unsigned v))) in
        ap Some (f ∙ ap (λ (s : List ℕ). clamped (trim_start_matches (λ b. eqb b 48) s)) e)
        ∙ sym (ap (λ (t : Bool). parsed_of (cond t none (some (cond (starts_with (45 ∷ []) v) 0 x)))) (is_null ∙ z) ∙ ap (λ (t : Bool). Some (cond t 0 x)) m)
