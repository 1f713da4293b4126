-- What `all` and `position` of the library say, in the words of `spec`.
use Prim.Native.Nat.{ℕ, zero, suc, ◌≤◌, ◌<◌}
use mathlib.Core.Path.{◌≡◌, refl, sym, ap, ◌∙◌}
use mathlib.Core.Bool.{Bool, true, false, and-false}
use mathlib.Core.List.{List, [], ◌∷◌}
use native.Mathlib.Omega.{arith}
use lib.ListN.{length, drop}
use lib.Seq.{drop-length}
use Rattle.std.proofs.Common.{Option, Some, None}
use Rattle.std.specs.Bool.{MatchBool}
use Rattle.std.specs.List.{AllWithin, HoldsAt}
use Rattle.std.specs.Option.{MatchOption, unwrap_or}
use Rattle.spec.specs.Bytes.{every, trim_start_matches}
use Rattle.text.specs.Trimmed.{Skipped}

module _ (p : ℕ → Bool) where
  every_within : (s : List ℕ) → AllWithin (λ x. p x ≡ true) s 0 (length s) → every p s ≡ true
  unfolding every
  every_within [] h = refl
  every_within (x ∷ s) h = rw (h 0 0 (omega arith) (omega arith), every_within s (λ k d l u. h (suc k) d (omega arith) (omega arith))) refl

  every_broken : (s : List ℕ) (k : ℕ) → k < length s → HoldsAt (λ x. p x ≡ false) s k → every p s ≡ false
  unfolding every
  every_broken [] k l h = absurd (omega arith)
  every_broken (x ∷ s) zero l h = rw (h 0) refl
  every_broken (x ∷ s) (suc k) l h = rw (every_broken s k (omega arith) h) (and-false (p x))

  pub every_by : (s : List ℕ) (r : Bool) → MatchBool r (AllWithin (λ x. p x ≡ true) s 0 (length s)) ((k : ℕ) × (k < length s) × HoldsAt (λ x. p x ≡ false) s k) → r ≡ every p s
  every_by s true h = sym (every_within s h)
  every_by s false h = sym (every_broken s h.0 h.1 h.2)

  skips : (s : List ℕ) (i : ℕ) → i ≤ length s → AllWithin (λ x. p x ≡ true) s 0 i → trim_start_matches p s ≡ trim_start_matches p (drop i s)
  unfolding trim_start_matches
  skips s zero l h = refl
  skips [] (suc i) l h = absurd (omega arith)
  skips (x ∷ s) (suc i) l h = rw (h 0 0 (omega arith) (omega arith)) (skips s i (omega arith) (λ k d a b. h (suc k) d (omega arith) (omega arith)))

  stands : (s : List ℕ) (i : ℕ) → i < length s → HoldsAt (λ x. p x ≡ false) s i → trim_start_matches p (drop i s) ≡ drop i s
  unfolding trim_start_matches
  stands [] i l h = absurd (omega arith)
  stands (x ∷ s) zero l h = rw (h 0) refl
  stands (x ∷ s) (suc i) l h = stands s i (omega arith) h

  pub skipped_by : (s : List ℕ) (r : Option ℕ) → MatchOption r (AllWithin (λ x. p x ≡ true) s 0 (length s)) (λ i. (i < length s) × HoldsAt (λ x. p x ≡ false) s i × AllWithin (λ x. p x ≡ true) s 0 i)
      → Skipped s (unwrap_or r (length s)) (trim_start_matches p s)
  unfolding trim_start_matches
  skipped_by s None h = record { within = omega arith; is = sym (skips s (length s) (omega arith) h ∙ (ap (trim_start_matches p) (drop-length s) ∙ sym (drop-length s))) }
  skipped_by s (Some i) h = record { within = omega (arith, h.0); is = sym (skips s i (omega (arith, h.0)) h.2 ∙ stands s i h.0 h.1) }
