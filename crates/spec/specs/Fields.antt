-- Fields, the form of sheets and skip lists (document 01, "The sheet"): "A field is a one-byte tag, a two-byte big-endian
-- length and that many bytes."
use Rattle.std.specs.Prelude.{ℕ, zero, suc, ◌+◌, ◌*◌, ◌≤◌, ◌<◌, ◌≡◌, refl, Bool, true, false, ◌&&◌, List, [], ◌∷◌, length, take, drop, leb}
use Rattle.std.proofs.Common.{arith, ap, length-drop}
use Rattle.spec.specs.Bytes.{Bytes, null}

pub record Field : Type 0 where
  pub tag : ℕ
  pub body : Bytes

-- two bytes, the more significant first
unfoldable pub word : ℕ → ℕ → ℕ
word a b = a * 256 + b

-- every field of s ends inside s and has a tag from `low` to `high`; s has at most n fields
unfoldable pub whole_from : ℕ → ℕ → ℕ → Bytes → Bool
whole_from low high zero s = null s
whole_from low high (suc n) [] = true
whole_from low high (suc n) (t ∷ []) = false
whole_from low high (suc n) (t ∷ a ∷ []) = false
whole_from low high (suc n) (t ∷ a ∷ b ∷ s) =
    (leb low t && leb t high) && (leb (word a b) (length s) && whole_from low high n (drop (word a b) s))

-- a field has three bytes and more, so that s has fewer fields than bytes
unfoldable pub whole : ℕ → ℕ → Bytes → Bool
whole low high s = whole_from low high (length s) s

unfoldable pub fields_from : ℕ → Bytes → List Field
fields_from zero s = []
fields_from (suc n) [] = []
fields_from (suc n) (t ∷ []) = []
fields_from (suc n) (t ∷ a ∷ []) = []
fields_from (suc n) (t ∷ a ∷ b ∷ s) =
    record { tag = t; body = take (word a b) s } ∷ fields_from n (drop (word a b) s)

-- the fields of a byte string that is whole
unfoldable pub fields : Bytes → List Field
fields s = fields_from (length s) s

-- ---- laws: the count of fields that the recursion goes by plays no part

fields_enough : (n m : ℕ) (s : Bytes) → length s ≤ n → length s ≤ m → fields_from n s ≡ fields_from m s
unfolding fields_from
fields_enough zero zero s p q = refl
fields_enough zero (suc m) [] p q = refl
fields_enough zero (suc m) (t ∷ s) p q = absurd (omega arith)
fields_enough (suc n) zero [] p q = refl
fields_enough (suc n) zero (t ∷ s) p q = absurd (omega arith)
fields_enough (suc n) (suc m) [] p q = refl
fields_enough (suc n) (suc m) (t ∷ []) p q = refl
fields_enough (suc n) (suc m) (t ∷ a ∷ []) p q = refl
fields_enough (suc n) (suc m) (t ∷ a ∷ b ∷ s) p q =
    ap (λ (fs : List Field). record { tag = t; body = take (word a b) s } ∷ fs)
    (fields_enough n m (drop (word a b) s) (omega (arith, length-drop (word a b) s)) (omega (arith, length-drop (word a b) s)))

whole_enough : (low high n m : ℕ) (s : Bytes) → length s ≤ n → length s ≤ m → whole_from low high n s ≡ whole_from low high m s
unfolding whole_from null
whole_enough low high zero zero s p q = refl
whole_enough low high zero (suc m) [] p q = refl
whole_enough low high zero (suc m) (t ∷ s) p q = absurd (omega arith)
whole_enough low high (suc n) zero [] p q = refl
whole_enough low high (suc n) zero (t ∷ s) p q = absurd (omega arith)
whole_enough low high (suc n) (suc m) [] p q = refl
whole_enough low high (suc n) (suc m) (t ∷ []) p q = refl
whole_enough low high (suc n) (suc m) (t ∷ a ∷ []) p q = refl
whole_enough low high (suc n) (suc m) (t ∷ a ∷ b ∷ s) p q =
    rw (whole_enough low high n m (drop (word a b) s) (omega (arith, length-drop (word a b) s)) (omega (arith, length-drop (word a b) s)))

-- the first field and the others
pub fields_cons : (t a b : ℕ) (s : Bytes)
    → fields (t ∷ a ∷ b ∷ s) ≡ record { tag = t; body = take (word a b) s } ∷ fields (drop (word a b) s)
unfolding fields fields_from
fields_cons t a b s =
    ap (λ (fs : List Field). record { tag = t; body = take (word a b) s } ∷ fs)
    (fields_enough (suc (suc (length s))) (length (drop (word a b) s)) (drop (word a b) s) (omega (arith, length-drop (word a b) s)) (omega arith))

pub whole_cons : (low high t a b : ℕ) (s : Bytes)
    → whole low high (t ∷ a ∷ b ∷ s)
    ≡ ((leb low t && leb t high) && (leb (word a b) (length s) && whole low high (drop (word a b) s)))
unfolding whole whole_from
whole_cons low high t a b s =
    rw (whole_enough low high (suc (suc (length s))) (length (drop (word a b) s)) (drop (word a b) s) (omega (arith, length-drop (word a b) s)) (omega arith))

-- fewer than three bytes are no field
pub fields_short : (s : Bytes) → length s < 3 → fields s ≡ []
unfolding fields fields_from
fields_short [] h = refl
fields_short (t ∷ []) h = refl
fields_short (t ∷ a ∷ []) h = refl
fields_short (t ∷ a ∷ b ∷ s) h = absurd (omega arith)

pub whole_short : (low high : ℕ) (s : Bytes) → length s < 3 → whole low high s ≡ null s
unfolding whole whole_from null
whole_short low high [] h = refl
whole_short low high (t ∷ []) h = refl
whole_short low high (t ∷ a ∷ []) h = refl
whole_short low high (t ∷ a ∷ b ∷ s) h = absurd (omega arith)
