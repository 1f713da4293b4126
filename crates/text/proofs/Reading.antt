-- Tests on texts, byte by byte.
use Prim.Native.Nat.{ℕ, zero, suc, ◌+◌, ◌-◌, ◌≤◌, ◌<◌}
use mathlib.Core.Path.{◌≡◌, refl, sym, ap, ◌∙◌}
use mathlib.Core.Bool.{Bool, true, false, not, ◌&&◌, ◌||◌, false≢true}
use mathlib.Core.List.{List, [], ◌∷◌}
use native.Mathlib.Omega.{arith}
use native.Mathlib.Numerals.{add-one}
use lib.ListN.{length, take, drop, get_or, length-take, length-drop}
use lib.Seq.{drop-cons, take_all, drop-length, take-nil, length-take-le}
use lib.Dec.{eqb, ltb}
use borrow.Author.Tests.{eq-eqb, ne_eqb, eqb-true, eqb-false, ltb-true, ltb-false}
use lib.Pointwise.{pointwise}
use Rattle.spec.specs.Bytes.{isin, same, starts_with, ends_with, null, trim_ascii_end, trim_end_matches, one, white}
use Rattle.spec.specs.Md.TextUtils.{ends_with_white}
use Rattle.text.specs.Trimmed.{Trimmed}

-- of different lengths
pub not_long : (a b : List ℕ) → (length a ≡ length b → ⊥) → same a b ≡ false
unfolding same
not_long [] [] h = absurd (h refl)
not_long [] (y ∷ b) h = refl
not_long (x ∷ a) [] h = refl
not_long (x ∷ a) (y ∷ b) h = rw (not_long a b (λ e. h (ap suc e))) (both_false (eqb x y))
  where
    both_false : (t : Bool) → t && false ≡ false
    both_false true = refl
    both_false false = refl

pub ends_short : (s x : List ℕ) → length s < length x → ends_with x s ≡ false
unfolding ends_with
ends_short s x h = not_long (drop (length s - length x) s) x (λ e. omega (arith, length-drop (length s - length x) s))

pub ends_long : (s x : List ℕ) → ends_with x s ≡ true → length x ≤ length s
ends_long s x e = go (ltb (length s) (length x)) refl
  where
    go : (t : Bool) → ltb (length s) (length x) ≡ t → length x ≤ length s
    go true q = absurd (false≢true (sym (ends_short s x (ltb-true (length s) (length x) q)) ∙ e))
    go false q = ltb-false (length s) (length x) q

pub trimmed_length : {s short : List ℕ} {n : ℕ} → Trimmed s n short → length short ≡ n
trimmed_length {s} {short} {n} t = ap length (sym t.is) ∙ length-take-le n s t.within

pub starts_short : (s x : List ℕ) → length s < length x → starts_with x s ≡ false
unfolding starts_with
starts_short s x h = not_long (take (length x) s) x (λ e. omega (arith, length-take (length x) s))

pub same_one : (a b : ℕ) → same (a ∷ []) (b ∷ []) ≡ eqb a b
unfolding same
same_one a b = go (eqb a b)
  where
    go : (t : Bool) → t && true ≡ t
    go true = refl
    go false = refl

pub ends_byte : (s : List ℕ) (b : ℕ) → (length s ≡ 0 → ⊥) → eqb (get_or s (length s - 1) 0) b ≡ ends_with (b ∷ []) s
unfolding ends_with
ends_byte s b h =
    let k : length s - 1 < length s = omega arith in
    let e : drop (length s - 1) s ≡ get_or s (length s - 1) 0 ∷ [] =
    let q : suc (length s - 1) ≡ length s = omega arith in
    drop-cons s (length s - 1) 0 k ∙ ap (λ (l : List ℕ). get_or s (length s - 1) 0 ∷ l) (ap (λ (j : ℕ). drop j s) q ∙ drop-length s) in
    sym (ap (λ (l : List ℕ). same l (b ∷ [])) e ∙ same_one (get_or s (length s - 1) 0) b)

pub starts_byte : (s : List ℕ) (b : ℕ) → (length s ≡ 0 → ⊥) → eqb (get_or s 0 0) b ≡ starts_with (b ∷ []) s
unfolding starts_with
starts_byte [] b h = absurd (h refl)
starts_byte (x ∷ s) b h = sym (same_one x b)

pub ends_is : (s : List ℕ) (b : ℕ) → 1 ≤ length s → get_or s (length s - 1) 0 ≡ b → ends_with (b ∷ []) s ≡ true
ends_is s b h e = sym (ends_byte s b (λ q. omega arith)) ∙ eq-eqb (get_or s (length s - 1) 0) b e

pub ends_not : (s : List ℕ) (b : ℕ) → (get_or s (length s - 1) 0 ≡ b → ⊥) → ends_with (b ∷ []) s ≡ false
ends_not [] b h = ends_short [] (b ∷ []) (omega arith)
ends_not (x ∷ s) b h = sym (ends_byte (x ∷ s) b (λ q. omega arith)) ∙ ne_eqb (get_or (x ∷ s) (length (x ∷ s) - 1) 0) b h

pub ends_none : (s : List ℕ) (b : ℕ) → length s < 1 → ends_with (b ∷ []) s ≡ false
ends_none s b h = ends_short s (b ∷ []) (omega arith)

pub starts_is : (s : List ℕ) (b : ℕ) → 1 ≤ length s → get_or s 0 0 ≡ b → starts_with (b ∷ []) s ≡ true
starts_is s b h e = sym (starts_byte s b (λ q. omega arith)) ∙ eq-eqb (get_or s 0 0) b e

pub starts_not : (s : List ℕ) (b : ℕ) → (get_or s 0 0 ≡ b → ⊥) → starts_with (b ∷ []) s ≡ false
starts_not [] b h = starts_short [] (b ∷ []) (omega arith)
starts_not (x ∷ s) b h = sym (starts_byte (x ∷ s) b (λ q. omega arith)) ∙ ne_eqb x b h

pub starts_none : (s : List ℕ) (b : ℕ) → length s < 1 → starts_with (b ∷ []) s ≡ false
starts_none s b h = starts_short s (b ∷ []) (omega arith)

-- ---- what the library's methods say, in the words of `spec`

eqb_sym : (a b : ℕ) → eqb a b ≡ eqb b a
eqb_sym a b = go (eqb b a) refl
  where
    go : (t : Bool) → eqb b a ≡ t → eqb a b ≡ t
    go true e = eq-eqb a b (sym (eqb-true b a e))
    go false e = ne_eqb a b (λ q. eqb-false b a e (sym q))

pub same_pointwise : (x y : List ℕ) → pointwise eqb x y ≡ same y x
unfolding same
same_pointwise [] [] = refl
same_pointwise [] (b ∷ y) = refl
same_pointwise (a ∷ x) [] = refl
same_pointwise (a ∷ x) (b ∷ y) = rw (eqb_sym a b, same_pointwise x y) refl

-- ---- every byte

-- ---- parts

-- the part from k on, as `&s[k..]` lends it
pub rest_part : (k : ℕ) (s : List ℕ) → take (length s - k) (drop k s) ≡ drop k s
rest_part k s = take_all (length s - k) (drop k s) (omega (arith, length-drop k s))

-- the part from b to n, either way
pub drop_take : (b n : ℕ) (s : List ℕ) → drop b (take n s) ≡ take (n - b) (drop b s)
drop_take zero n s = let q : n ≡ n - 0 = omega arith in ap (λ (k : ℕ). take k s) q
drop_take (suc b) zero s = let q : 0 ≡ 0 - suc b = omega arith in ap (λ (k : ℕ). take k (drop (suc b) s)) q
drop_take (suc b) (suc n) [] = sym (take-nil (suc n - suc b))
drop_take (suc b) (suc n) (x ∷ s) = let q : n - b ≡ suc n - suc b = omega arith in drop_take b n s ∙ ap (λ (k : ℕ). take k (drop b s)) q

-- ---- empty texts, and whole ones

pub null_none : (s : List ℕ) → length s ≡ 0 → null s ≡ true
unfolding null
null_none [] e = refl
null_none (x ∷ s) e = absurd (omega arith)

pub null_some : (s : List ℕ) → (length s ≡ 0 → ⊥) → null s ≡ false
unfolding null
null_some [] h = absurd (h refl)
null_some (x ∷ s) h = refl

pub same_self : (s : List ℕ) → same s s ≡ true
unfolding same
same_self [] = refl
same_self (x ∷ s) = rw (eq-eqb x x refl, same_self s)

pub same_front : (s : List ℕ) (n : ℕ) → n ≤ length s → same (take n s) s ≡ eqb n (length s)
same_front s n h = go (eqb n (length s)) refl
  where
    go : (t : Bool) → eqb n (length s) ≡ t → same (take n s) s ≡ t
    go true e = rw (take_all n s (omega (arith, eqb-true n (length s) e))) (same_self s)
    go false e = not_long (take n s) s (λ q. eqb-false n (length s) e (omega (arith, length-take-le n s h)))

pub ends_white : (s : List ℕ) (n : ℕ) → Trimmed s n (trim_end_matches (one white) s) → not (eqb n (length s)) ≡ ends_with_white s
unfolding ends_with_white trim_ascii_end
ends_white s n t = ap not (sym (same_front s n t.within) ∙ ap (λ (l : List ℕ). same l s) t.is)

-- what ends with a byte has one
pub ends_some : (s : List ℕ) (b : ℕ) → ends_with (b ∷ []) s ≡ true → 1 ≤ length s
unfolding ends_with same
ends_some [] b e = absurd (false≢true e)
ends_some (x ∷ s) b e = omega arith

-- ---- one of the bytes

pub isin_step : (s : List ℕ) (i b : ℕ) → i < length s → isin b (drop i s) ≡ (eqb b (get_or s i 0) || isin b (drop (i + 1) s))
unfolding isin
isin_step s i b h = rw (drop-cons s i 0 h, add-one i)

pub isin_none : (s : List ℕ) (i b : ℕ) → length s ≤ i → isin b (drop i s) ≡ false
unfolding isin
isin_none [] zero b h = refl
isin_none [] (suc i) b h = refl
isin_none (x ∷ s) zero b h = absurd (omega arith)
isin_none (x ∷ s) (suc i) b h = isin_none s i b (omega arith)
