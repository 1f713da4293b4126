-- From field to field.
use Prim.Native.Nat.{ℕ, zero, suc, ◌+◌, ◌-◌, ◌<◌, ◌≤◌}
use native.Mathlib.Omega.{arith}
use native.Mathlib.Numerals.{add-one, add-two, add-three}
use mathlib.Core.Path.{◌≡◌, refl, ap, ap₂, ◌∙◌, sym}
use mathlib.Core.Bool.{Bool, true, false, cond, ◌&&◌}
use mathlib.Core.List.{List, [], ◌∷◌}
use lib.ListN.{length, get_or, take, drop, length-drop, drop_of_length-le}
use lib.Seq.{drop-cons, drop-drop, take_all}
use lib.Dec.{eqb, leb, ltb, eqb-zero-suc, eqb-suc-suc}
use borrow.Author.Tests.{ltb-true, ltb-false, le-leb, lt-leb, eqb-true, eqb-false, eq-eqb, ne_eqb}
use Rattle.spec.specs.Bytes.{Bytes, null, same}
use Rattle.spec.specs.Fields.{Field, whole, fields, fields_cons, whole_cons, whole_short}
use Rattle.input.specs.Spans.{length_at, end_of, span_at, field_of}

-- the head of the field at p
head_law : (s : Bytes) (p : ℕ) → p + 3 ≤ length s
    → drop p s ≡ get_or s p 0 ∷ get_or s (p + 1) 0 ∷ get_or s (p + 2) 0 ∷ drop (p + 3) s
head_law s p h =
    rw (add-one, add-two, add-three)
    (drop-cons s p 0 (omega arith)
    ∙ ap (λ (l : Bytes). get_or s p 0 ∷ l)
    (drop-cons s (suc p) 0 (omega arith) ∙ ap (λ (l : Bytes). get_or s (suc p) 0 ∷ l) (drop-cons s (suc (suc p)) 0 (omega arith))))

-- a longer part than there is is all there is
take_left : (n : ℕ) (s : Bytes) (p : ℕ) → length s - p < n → take n (drop p s) ≡ take (length s - p) (drop p s)
take_left n s p h =
    take_all n (drop p s) (omega (arith, length-drop p s)) ∙ sym (take_all (length s - p) (drop p s) (omega (arith, length-drop p s)))

pub span_fields : (s : Bytes) (p : ℕ) → p + 3 ≤ length s
    → fields (drop p s) ≡ field_of s (span_at s p) ∷ fields (drop (end_of s p) s)
span_fields s p h =
    ap fields (head_law s p h)
    ∙ (fields_cons (get_or s p 0) (get_or s (p + 1) 0) (get_or s (p + 2) 0) (drop (p + 3) s) ∙ go (ltb (length s - (p + 3)) (length_at s p)) refl)
  where
    both : {x y : Bytes} {u v : Bytes} → x ≡ y → u ≡ v
        → ◌≡◌ {A = List Field} (record { tag = get_or s p 0; body = x } ∷ fields u) (record { tag = get_or s p 0; body = y } ∷ fields v)
    both q r = ap₂ (λ (z w : Bytes). record { tag = get_or s p 0; body = z } ∷ fields w) q r

    go : (t : Bool) → ltb (length s - (p + 3)) (length_at s p) ≡ t
        → ◌≡◌ {A = List Field} (record { tag = get_or s p 0; body = take (length_at s p) (drop (p + 3) s) } ∷ fields (drop (length_at s p) (drop (p + 3) s)))
        (record { tag = get_or s p 0; body = take (cond t (length s) (p + 3 + length_at s p) - (p + 3)) (drop (p + 3) s) }
        ∷ fields (drop (cond t (length s) (p + 3 + length_at s p)) s))
    go true e =
        let short : length s - (p + 3) < length_at s p = ltb-true (length s - (p + 3)) (length_at s p) e in
        both (take_left (length_at s p) s (p + 3) short)
        (drop_of_length-le (drop (p + 3) s) {i = length_at s p} (omega (arith, length-drop (p + 3) s, short)) ∙ sym (drop_of_length-le s {i = length s} (omega arith)))
    go false e =
        let same : p + 3 + length_at s p - (p + 3) ≡ length_at s p = omega arith in
        both (ap (λ (n : ℕ). take n (drop (p + 3) s)) (sym same)) (drop-drop (length_at s p) (p + 3) s)

-- behind a field that is cut off nothing is left, so that its end may be taken for where its length says
pub past_end : (s : Bytes) (p : ℕ) → drop (end_of s p) s ≡ drop (p + 3 + length_at s p) s
past_end s p = go (ltb (length s - (p + 3)) (length_at s p)) refl
  where
    go : (t : Bool) → ltb (length s - (p + 3)) (length_at s p) ≡ t
        → drop (cond t (length s) (p + 3 + length_at s p)) s ≡ drop (p + 3 + length_at s p) s
    go true e =
        drop_of_length-le s {i = length s} (omega arith)
        ∙ sym (drop_of_length-le s {i = p + 3 + length_at s p} (omega (arith, ltb-true (length s - (p + 3)) (length_at s p) e)))
    go false e = refl

-- the field ends behind its head and inside
pub end_bounds : (s : Bytes) (p : ℕ) → p + 3 ≤ length s → (p + 3 ≤ end_of s p) × (end_of s p ≤ length s)
end_bounds s p h = go (ltb (length s - (p + 3)) (length_at s p)) refl
  where
    go : (t : Bool) → ltb (length s - (p + 3)) (length_at s p) ≡ t
        → (p + 3 ≤ cond t (length s) (p + 3 + length_at s p)) × (cond t (length s) (p + 3 + length_at s p) ≤ length s)
    go true e = (h, omega arith)
    go false e = (omega arith, omega (arith, ltb-false (length s - (p + 3)) (length_at s p) e))

-- whether the fields from p on are whole
pub whole_at : (low high : ℕ) (s : Bytes) (p : ℕ) → p + 3 ≤ length s
    → whole low high (drop p s)
    ≡ ((leb low (get_or s p 0) && leb (get_or s p 0) high)
    && (leb (length_at s p) (length s - (p + 3)) && whole low high (drop (p + 3 + length_at s p) s)))
whole_at low high s p h =
    ap (whole low high) (head_law s p h)
    ∙ (whole_cons low high (get_or s p 0) (get_or s (p + 1) 0) (get_or s (p + 2) 0) (drop (p + 3) s)
    ∙ rw (length-drop (p + 3) s, drop-drop (length_at s p) (p + 3) s))

-- the field at p decides, where those before it are whole
module _ (low high : ℕ) (s : Bytes) (p n tag : ℕ) (h : p + 3 ≤ length s) (n-is : n ≡ length_at s p) (tag_is : tag ≡ get_or s p 0)
    (so_far : whole low high s ≡ whole low high (drop p s)) where
  step : whole low high s
      ≡ ((leb low tag && leb tag high) && (leb n (length s - (p + 3)) && whole low high (drop (p + 3 + n) s)))
  step = so_far ∙ (whole_at low high s p h ∙ rw (← n-is, ← tag_is))

  pub too_low : tag < low → false ≡ whole low high s
  too_low k = sym (step ∙ rw (lt-leb low tag k))

  pub too_high : low ≤ tag → high < tag → false ≡ whole low high s
  too_high k l = sym (step ∙ rw (le-leb low tag k, lt-leb tag high l))

  pub too_long : low ≤ tag → tag ≤ high → length s - (p + 3) < n → false ≡ whole low high s
  too_long k l m = sym (step ∙ rw (le-leb low tag k, le-leb tag high l, lt-leb n (length s - (p + 3)) m))

  pub fits : low ≤ tag → tag ≤ high → n ≤ length s - (p + 3) → whole low high s ≡ whole low high (drop (p + 3 + n) s)
  fits k l m = step ∙ rw (le-leb low tag k, le-leb tag high l, le-leb n (length s - (p + 3)) m)

null_drop : (s : Bytes) (p : ℕ) → p ≤ length s → eqb p (length s) ≡ null (drop p s)
unfolding null
null_drop [] zero h = refl
null_drop [] (suc p) h = absurd (omega arith)
null_drop (b ∷ s) zero h = eqb-zero-suc (length s)
null_drop (b ∷ s) (suc p) h = eqb-suc-suc p (length s) ∙ null_drop s p (omega arith)

pub whole_end : (low high : ℕ) (s : Bytes) (p : ℕ) → p ≤ length s → length s - p < 3 → whole low high s ≡ whole low high (drop p s)
    → eqb p (length s) ≡ whole low high s
whole_end low high s p h k so_far =
    null_drop s p h ∙ sym (so_far ∙ whole_short low high (drop p s) (omega (arith, length-drop p s)))

-- ---- equal slices

eqb_comm : (a b : ℕ) → eqb a b ≡ eqb b a
eqb_comm a b = go (eqb a b) refl
  where
    go : (t : Bool) → eqb a b ≡ t → t ≡ eqb b a
    go true e = sym (eq-eqb b a (sym (eqb-true a b e)))
    go false e = sym (ne_eqb b a (λ q. eqb-false a b e (sym q)))

pub same_comm : (x y : Bytes) → same x y ≡ same y x
unfolding same
same_comm [] [] = refl
same_comm [] (b ∷ y) = refl
same_comm (a ∷ x) [] = refl
same_comm (a ∷ x) (b ∷ y) = rw (eqb_comm a b, same_comm x y)
