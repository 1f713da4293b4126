-- Where characters begin.
use Prim.Native.Nat.{ℕ, zero, suc, ◌+◌, ◌≤◌, ◌<◌}
use mathlib.Core.Path.{◌≡◌, refl, sym, ap, ◌∙◌}
use mathlib.Core.Bool.{Bool, true, false}
use mathlib.Core.List.{List}
use native.Mathlib.Omega.{arith}
use borrow.Author.Tests.{leb-true, leb-false}
use lib.ListN.{length, take, get_or, get_or-eq_default}
use Rattle.std.proofs.lemmas.List.{get_or-take}
use lib.Dec.{leb}
use lib.Seq.{length-take-le, take_all}
use Rattle.spec.specs.Md.Elements.List.{continuation, boundary, truncate}
use Rattle.text.specs.Trimmed.{Trimmed}

none_behind : (t : List ℕ) (k : ℕ) → length t ≤ k → continuation (get_or t k 0) ≡ false
unfolding continuation
none_behind t k h = ap continuation (get_or-eq_default t 0 h)

-- k is the last place up to n at which a character begins
pub boundary_at : (t : List ℕ) (n k : ℕ) → k ≤ n → continuation (get_or t k 0) ≡ false → ((j : ℕ) → k < j → j ≤ n → continuation (get_or t j 0) ≡ true) → boundary n t ≡ k
unfolding boundary
boundary_at t zero k h e after = omega arith
boundary_at t (suc n) k h e after = go (leb k n) refl (λ l. boundary_at t n k l e (λ j a b. after j a (omega arith)))
  where
    go : (r : Bool) → leb k n ≡ r → (k ≤ n → boundary n t ≡ k) → boundary (suc n) t ≡ k
    go true q earlier = rw (after (suc n) (omega (arith, leb-true k n q)) (omega arith)) (earlier (leb-true k n q))
    go false q earlier =
        let l : k ≡ suc n = omega (arith, leb-false k n q) in
        rw (ap (λ (j : ℕ). continuation (get_or t j 0)) (sym l) ∙ e) (sym l)

pub boundary_none : (t : List ℕ) (n : ℕ) → ((j : ℕ) → j ≤ n → continuation (get_or t j 0) ≡ true) → boundary n t ≡ 0
unfolding boundary
boundary_none t zero h = refl
boundary_none t (suc n) h = rw (h (suc n) (omega arith)) (boundary_none t n (λ j l. h j (omega arith)))

-- behind the end no character goes on
pub boundary_behind : (t : List ℕ) (n : ℕ) → length t ≤ n → boundary n t ≡ n
unfolding boundary
boundary_behind t zero h = refl
boundary_behind t (suc n) h = rw (none_behind t (suc n) h) refl

pub truncate_all : (t : List ℕ) (n : ℕ) → length t ≤ n → truncate n t ≡ t
unfolding truncate
truncate_all t n h = rw (boundary_behind t n h) (take_all n t h)

-- the places are those of the bytes up to n
module _ (t : List ℕ) (n : ℕ) (h : n < length t) where
  front_at : (j : ℕ) → j ≤ n → get_or (take (n + 1) t) j 0 ≡ get_or t j 0
  front_at j l = get_or-take (n + 1) t j 0 (omega arith)

  front_length : length (take (n + 1) t) ≡ n + 1
  front_length = length-take-le (n + 1) t (omega arith)

  pub bounded_at : (k : ℕ) → k < length (take (n + 1) t) → continuation (get_or (take (n + 1) t) k 0) ≡ false
      → ((j : ℕ) → k + 1 ≤ j → j < length (take (n + 1) t) → continuation (get_or (take (n + 1) t) j 0) ≡ true) → (k ≡ boundary n t) × (k ≤ n)
  bounded_at k i e after =
      let l : k ≤ n = omega (arith, front_length) in (
        sym (boundary_at t n k l (ap continuation (sym (front_at k l)) ∙ e) (λ j a b. ap continuation (sym (front_at j b)) ∙ after j (omega arith) (omega (arith, front_length)))),
        l,
      )

  pub bounded_none : ((j : ℕ) → j < length (take (n + 1) t) → continuation (get_or (take (n + 1) t) j 0) ≡ true) → (0 ≡ boundary n t) × (0 ≤ n)
  bounded_none all = (sym (boundary_none t n (λ j l. ap continuation (sym (front_at j l)) ∙ all j (omega (arith, front_length)))), omega arith)

  -- `truncate` cuts t at the last place up to n at which a character begins
  pub truncated : {k : ℕ} → (k ≡ boundary n t) × (k ≤ n) → Trimmed t k (truncate n t)
  unfolding truncate
  truncated b = record { within = omega (arith, b.1, h); is = ap (λ (j : ℕ). take j t) b.0 }

  -- a character begins at k, and none behind k up to n
  pub truncated_at : (k : ℕ) → k < length (take (n + 1) t) → continuation (get_or (take (n + 1) t) k 0) ≡ false
      → ((j : ℕ) → k + 1 ≤ j → j < length (take (n + 1) t) → continuation (get_or (take (n + 1) t) j 0) ≡ true) → Trimmed t k (truncate n t)
  truncated_at k i e after = truncated (bounded_at k i e after)

  -- no character begins at n or before it, so nothing is left
  pub truncated_none : ((j : ℕ) → j < length (take (n + 1) t) → continuation (get_or (take (n + 1) t) j 0) ≡ true) → Trimmed t 0 (truncate n t)
  truncated_none all = truncated (bounded_none all)
