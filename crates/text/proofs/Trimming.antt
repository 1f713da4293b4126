-- Trims, byte by byte from the end.
use Prim.Native.Nat.{ℕ, suc, ◌+◌, ◌-◌, ◌≤◌, ◌<◌}
use mathlib.Core.Path.{◌≡◌, refl, sym, ap, subst, ◌∙◌}
use mathlib.Core.Bool.{Bool, true, false}
use mathlib.Core.List.{List, [], ◌∷◌, ◌++◌}
use native.Mathlib.Omega.{arith}
use lib.ListN.{length, take, get_or, length-take}
use lib.Seq.{take-suc, take_all, take-take, take-length}
use Rattle.spec.specs.Bytes.{one, unless, trim_end_matches}

-- a byte of the class at the end goes
pub trim_snoc : (p : ℕ → Bool) (s : List ℕ) (b : ℕ) → p b ≡ true → trim_end_matches (one p) (s ++ (b ∷ [])) ≡ trim_end_matches (one p) s
unfolding trim_end_matches one unless
trim_snoc p [] b e = rw e
trim_snoc p (a ∷ s) b e = ap (λ (r : List ℕ). unless (one p (a ∷ r)) (a ∷ r)) (trim_snoc p s b e)

-- another stays
pub trim_stays : (p : ℕ → Bool) (s : List ℕ) (b : ℕ) → p b ≡ false → trim_end_matches (one p) (s ++ (b ∷ [])) ≡ s ++ (b ∷ [])
unfolding trim_end_matches one unless
trim_stays p [] b e = rw e
trim_stays p (a ∷ s) b e = ap (λ (r : List ℕ). unless (one p (a ∷ r)) (a ∷ r)) (trim_stays p s b e) ∙ long s
  where
    long : (s : List ℕ) → unless (one p (a ∷ (s ++ (b ∷ [])))) (a ∷ (s ++ (b ∷ []))) ≡ a ∷ (s ++ (b ∷ []))
    long [] = refl
    long (x ∷ s) = refl

-- a trim makes no text longer
pub trim_long : (q : List ℕ → Bool) (s : List ℕ) → length (trim_end_matches q s) ≤ length s
unfolding trim_end_matches unless
trim_long q [] = omega arith
trim_long q (b ∷ s) = on (q (b ∷ trim_end_matches q s)) (trim_long q s)
  where
    on : (t : Bool) → length (trim_end_matches q s) ≤ length s → length (unless t (b ∷ trim_end_matches q s)) ≤ length (b ∷ s)
    on true h = omega arith
    on false h = omega arith

last_of : (s : List ℕ) (n : ℕ) → 0 < n → n ≤ length s → take n s ≡ take (n - 1) s ++ (get_or s (n - 1) 0 ∷ [])
last_of s n h k = let q : n ≡ suc (n - 1) = omega arith in ap (λ (j : ℕ). take j s) q ∙ take-suc s (n - 1) 0 (omega arith)

pub trim_less : (p : ℕ → Bool) (s : List ℕ) (n : ℕ) → 0 < n → n ≤ length s → p (get_or s (n - 1) 0) ≡ true
    → trim_end_matches (one p) (take n s) ≡ trim_end_matches (one p) (take (n - 1) s)
trim_less p s n h k e = ap (trim_end_matches (one p)) (last_of s n h k) ∙ trim_snoc p (take (n - 1) s) (get_or s (n - 1) 0) e

pub trim_here : (p : ℕ → Bool) (s : List ℕ) (n : ℕ) → 0 < n → n ≤ length s → p (get_or s (n - 1) 0) ≡ false → trim_end_matches (one p) (take n s) ≡ take n s
trim_here p s n h k e =
    ap (trim_end_matches (one p)) (last_of s n h k) ∙ trim_stays p (take (n - 1) s) (get_or s (n - 1) 0) e ∙ sym (last_of s n h k)

-- a text whose last byte stays is not trimmed
pub trim_whole : (p : ℕ → Bool) (s : List ℕ) (n : ℕ) → length s ≡ n + 1 → p (get_or s n 0) ≡ false → trim_end_matches (one p) s ≡ s
trim_whole p s n long h =
    let all : take (suc n) s ≡ s = take_all (suc n) s (omega arith) in
    let e : n ≡ suc n - 1 = omega arith in
    ap (trim_end_matches (one p)) (sym all) ∙ trim_here p s (suc n) (omega arith) (omega arith) (subst (λ (k : ℕ). p (get_or s k 0) ≡ false) e h) ∙ all

pub trim_none : (p : ℕ → Bool) (s : List ℕ) (n : ℕ) → n ≤ 0 → trim_end_matches (one p) (take n s) ≡ take n s
unfolding trim_end_matches
trim_none p s n h = let e : n ≡ 0 = omega arith in rw e

-- ---- a front of s, without its last byte
pub front_less : (s r : List ℕ) → length r ≤ length s → take (length r) s ≡ r → take (length (take (length r - 1) r)) s ≡ take (length r - 1) r
front_less s r h e =
    let n : length (take (length r - 1) r) ≡ length r - 1 = omega (arith, length-take (length r - 1) r) in
    ap (λ (k : ℕ). take k s) n ∙ sym (take-take (length r - 1) (length r) s (omega arith)) ∙ ap (λ (l : List ℕ). take (length r - 1) l) e

pub last_less : (p : ℕ → Bool) (r : List ℕ) → 1 ≤ length r → p (get_or r (length r - 1) 0) ≡ true
    → trim_end_matches (one p) r ≡ trim_end_matches (one p) (take (length r - 1) r)
last_less p r h e = ap (trim_end_matches (one p)) (sym (take-length r)) ∙ trim_less p r (length r) (omega arith) (omega arith) e

pub last_here : (p : ℕ → Bool) (r : List ℕ) → 1 ≤ length r → p (get_or r (length r - 1) 0) ≡ false → trim_end_matches (one p) r ≡ r
last_here p r h e =
    ap (trim_end_matches (one p)) (sym (take-length r)) ∙ trim_here p r (length r) (omega arith) (omega arith) e ∙ take-length r

pub last_none : (p : ℕ → Bool) (r : List ℕ) → length r < 1 → trim_end_matches (one p) r ≡ r
last_none p [] h = trim_none p [] 0 (omega arith)
last_none p (x ∷ r) h = absurd (omega arith)
