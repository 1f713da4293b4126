-- White_Space at the end of a text.
use Prim.Native.Nat.{ℕ, suc, ◌-◌, ◌≤◌, ◌<◌}
use mathlib.Core.Path.{◌≡◌, refl, sym, ap, ◌∙◌}
use mathlib.Core.Bool.{Bool, true, false, and-false}
use mathlib.Core.List.{List, [], ◌∷◌, ◌++◌}
use native.Mathlib.Omega.{arith}
use lib.Dec.{eqb}
use borrow.Author.Tests.{eqb-true, eqb-false}
use lib.ListN.{length, take, drop, get_or, length-drop, take-append-drop}
use lib.Seq.{slice, slice-cons, slice_empty, length-take-le, take-take, take-length}
use Rattle.spec.specs.Bytes.{Bytes, same, among, unless, white_space_of, is_white_space, trim_end_matches, trim_end}
use Rattle.text.specs.Trimmed.{WithoutEnd}

-- no White_Space character has more than three bytes
pub long : (a b c d : ℕ) (s : List ℕ) → is_white_space (a ∷ b ∷ c ∷ d ∷ s) ≡ false
unfolding is_white_space among white_space_of same
long a b c d s = simp and-false

long_not : (s : List ℕ) → 3 < length s → is_white_space s ≡ false
long_not [] h = absurd (omega arith)
long_not (a ∷ []) h = absurd (omega arith)
long_not (a ∷ b ∷ []) h = absurd (omega arith)
long_not (a ∷ b ∷ c ∷ []) h = absurd (omega arith)
long_not (a ∷ b ∷ c ∷ d ∷ s) h = long a b c d s

-- w goes whole
trims : (q : Bytes → Bool) (s w : List ℕ) → trim_end_matches q w ≡ [] → trim_end_matches q (s ++ w) ≡ trim_end_matches q s
unfolding trim_end_matches
trims q [] w e = e
trims q (a ∷ s) w e = ap (λ (r : List ℕ). unless (q (a ∷ r)) (a ∷ r)) (trims q s w e)

-- nothing goes
stays_all : (q : Bytes → Bool) (s : List ℕ) → ((k : ℕ) → k < length s → q (drop k s) ≡ false) → trim_end_matches q s ≡ s
unfolding trim_end_matches unless
stays_all q [] h = refl
stays_all q (a ∷ s) h =
    ap (λ (r : List ℕ). unless (q (a ∷ r)) (a ∷ r)) (stays_all q s (λ k l. h (suc k) (omega arith))) ∙ ap (λ (t : Bool). unless t (a ∷ s)) (h 0 (omega arith))

module _ (q : Bytes → Bool) (a b c : ℕ) where
  one_goes : q (c ∷ []) ≡ true → trim_end_matches q (c ∷ []) ≡ []
  unfolding trim_end_matches unless
  one_goes e = rw e

  two_go : q (c ∷ []) ≡ false → q (b ∷ c ∷ []) ≡ true → trim_end_matches q (b ∷ c ∷ []) ≡ []
  unfolding trim_end_matches unless
  two_go e f = rw (e, f)

  three_go : q (c ∷ []) ≡ false → q (b ∷ c ∷ []) ≡ false → q (a ∷ b ∷ c ∷ []) ≡ true → trim_end_matches q (a ∷ b ∷ c ∷ []) ≡ []
  unfolding trim_end_matches unless
  three_go e f g = rw (e, f, g)

module _ (s : List ℕ) (n : ℕ) (h : n ≤ length s) where
  -- the last bytes
  last_one : 0 < n → slice (n - 1) n s ≡ get_or s (n - 1) 0 ∷ []
  last_one p = let q : suc (n - 1) ≡ n = omega arith in
      slice-cons (n - 1) n s 0 (omega arith) h ∙ ap (λ (j : ℕ). get_or s (n - 1) 0 ∷ slice j n s) q ∙ ap (λ (l : List ℕ). get_or s (n - 1) 0 ∷ l) (slice_empty n s)

  last_two : 1 < n → slice (n - 2) n s ≡ get_or s (n - 2) 0 ∷ get_or s (n - 1) 0 ∷ []
  last_two p = let q : suc (n - 2) ≡ n - 1 = omega arith in
      slice-cons (n - 2) n s 0 (omega arith) h ∙ ap (λ (j : ℕ). get_or s (n - 2) 0 ∷ slice j n s) q ∙ ap (λ (l : List ℕ). get_or s (n - 2) 0 ∷ l) (last_one (omega arith))

  last_three : 2 < n → slice (n - 3) n s ≡ get_or s (n - 3) 0 ∷ get_or s (n - 2) 0 ∷ get_or s (n - 1) 0 ∷ []
  last_three p = let q : suc (n - 3) ≡ n - 2 = omega arith in
      slice-cons (n - 3) n s 0 (omega arith) h ∙ ap (λ (j : ℕ). get_or s (n - 3) 0 ∷ slice j n s) q ∙ ap (λ (l : List ℕ). get_or s (n - 3) 0 ∷ l) (last_two (omega arith))

  -- k bytes go
  goes : (k : ℕ) (w : List ℕ) → k ≤ n → slice (n - k) n s ≡ w → trim_end_matches is_white_space w ≡ [] → trim_end (take n s) ≡ trim_end (take (n - k) s)
  unfolding trim_end
  goes k w l e z =
      let split : take n s ≡ take (n - k) s ++ w =
      sym (take-append-drop (n - k) (take n s)) ∙ ap (λ (x : List ℕ). x ++ drop (n - k) (take n s)) (take-take (n - k) n s (omega arith)) ∙ ap (λ (x : List ℕ). take (n - k) s ++ x) e in
      ap (trim_end_matches is_white_space) split ∙ trims is_white_space (take (n - k) s) w z

  -- none does
  none_goes : 0 < n → is_white_space (get_or s (n - 1) 0 ∷ []) ≡ false → (1 < n → is_white_space (get_or s (n - 2) 0 ∷ get_or s (n - 1) 0 ∷ []) ≡ false)
      → (2 < n → is_white_space (get_or s (n - 3) 0 ∷ get_or s (n - 2) 0 ∷ get_or s (n - 1) 0 ∷ []) ≡ false) → trim_end (take n s) ≡ take n s
  unfolding trim_end
  none_goes p x y z = stays_all is_white_space (take n s) (λ k l. at k (omega (arith, length-take-le n s h)))
    where
      at : (k : ℕ) → k < n → is_white_space (drop k (take n s)) ≡ false
      at k l = go (eqb (n - k) 1) (eqb (n - k) 2) (eqb (n - k) 3) refl refl refl
        where
          go : (t u v : Bool) → eqb (n - k) 1 ≡ t → eqb (n - k) 2 ≡ u → eqb (n - k) 3 ≡ v → is_white_space (drop k (take n s)) ≡ false
          go true u v e f g = let q : k ≡ n - 1 = omega (arith, eqb-true (n - k) 1 e) in ap (λ (j : ℕ). is_white_space (slice j n s)) q ∙ ap is_white_space (last_one p) ∙ x
          go false true v e f g =
              let q : k ≡ n - 2 = omega (arith, eqb-true (n - k) 2 f) in
              let r : 1 < n = omega (arith, eqb-true (n - k) 2 f) in ap (λ (j : ℕ). is_white_space (slice j n s)) q ∙ ap is_white_space (last_two r) ∙ y r
          go false false true e f g =
              let q : k ≡ n - 3 = omega (arith, eqb-true (n - k) 3 g) in
              let r : 2 < n = omega (arith, eqb-true (n - k) 3 g) in ap (λ (j : ℕ). is_white_space (slice j n s)) q ∙ ap is_white_space (last_three r) ∙ z r
          go false false false e f g =
              let a : n - k ≡ 1 → ⊥ = eqb-false (n - k) 1 e in
              let b : n - k ≡ 2 → ⊥ = eqb-false (n - k) 2 f in
              let c : n - k ≡ 3 → ⊥ = eqb-false (n - k) 3 g in
              long_not (slice k n s) (omega (arith, length-drop k (take n s), length-take-le n s h))

-- what goes is the last k bytes of s
without : (s : List ℕ) (k : ℕ) → 0 < k → k ≤ length s → trim_end (take (length s) s) ≡ trim_end (take (length s - k) s) → WithoutEnd s (take (length s - k) s)
without s k p h e =
    let m : length (take (length s - k) s) ≡ length s - k = length-take-le (length s - k) s (omega arith) in
    record { shorter = omega (arith, m); is = ap (λ (j : ℕ). take j s) m; trims = ap trim_end (sym (take-length s)) ∙ e }

module _ (s : List ℕ) where
  abbrev last : ℕ → ℕ
  last k = get_or s (length s - k) 0

  pub end_one : 1 ≤ length s → is_white_space (last 1 ∷ []) ≡ true → WithoutEnd s (take (length s - 1) s)
  end_one h e = without s 1 (omega arith) h (goes s (length s) (omega arith) 1 _ h (last_one s (length s) (omega arith) h) (one_goes is_white_space 0 0 (last 1) e))

  pub end_two : 2 ≤ length s → is_white_space (last 1 ∷ []) ≡ false → is_white_space (last 2 ∷ last 1 ∷ []) ≡ true → WithoutEnd s (take (length s - 2) s)
  end_two h e f = without s 2 (omega arith) h (goes s (length s) (omega arith) 2 _ h (last_two s (length s) (omega arith) h) (two_go is_white_space 0 (last 2) (last 1) e f))

  pub end_three : 3 ≤ length s → is_white_space (last 1 ∷ []) ≡ false → is_white_space (last 2 ∷ last 1 ∷ []) ≡ false → is_white_space (last 3 ∷ last 2 ∷ last 1 ∷ []) ≡ true
      → WithoutEnd s (take (length s - 3) s)
  end_three h e f g =
      without s 3 (omega arith) h (goes s (length s) (omega arith) 3 _ h (last_three s (length s) (omega arith) h) (three_go is_white_space (last 3) (last 2) (last 1) e f g))

  pub end_empty : length s < 1 → trim_end s ≡ s
  unfolding trim_end trim_end_matches
  end_empty h = by s h
    where
      by : (s : List ℕ) → length s < 1 → trim_end s ≡ s
      by [] h = refl
      by (x ∷ s) h = absurd (omega arith)

  pub end_none : 1 ≤ length s → is_white_space (last 1 ∷ []) ≡ false → (1 < length s → is_white_space (last 2 ∷ last 1 ∷ []) ≡ false)
      → (2 < length s → is_white_space (last 3 ∷ last 2 ∷ last 1 ∷ []) ≡ false) → trim_end s ≡ s
  end_none h x y z = ap trim_end (sym (take-length s)) ∙ none_goes s (length s) (omega arith) h x y z ∙ take-length s

-- a front of a front
pub front_of_front : (s r t : List ℕ) → take (length r) s ≡ r → length t < length r → take (length t) r ≡ t → take (length t) s ≡ t
front_of_front s r t e h f = sym (take-take (length t) (length r) s (omega (arith, h))) ∙ ap (take (length t)) e ∙ f
