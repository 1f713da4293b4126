-- `trim_end`, which trims Unicode's White_Space, stops at the last word of a plain text.
use Rattle.std.specs.Prelude.{ℕ, ◌≡◌, Bool, true, not, ◌&&◌, ◌||◌, List, [], ◌∷◌, ◌++◌, eqb, drop}
use Rattle.std.proofs.Math.Path.{refl}
use Rattle.std.proofs.Common.{sym, ap, ◌∙◌, true≢false, append_assoc, eqb-true}
use Rattle.std.proofs.Math.Bool.{false, or-true}
use Rattle.std.proofs.lemmas.Bool.{not-true}
use Rattle.spec.specs.Bytes.{Bytes, null, same, isin, among, every, ends_with, white, blank, white_space_of, is_white_space, unless, trim_end_matches, trim_end}
use Rattle.spec.specs.Plain.{wide_blanks, ends_with_any}
use Rattle.spec.proofs.Tests.{and_l, and_r, or_l, or_r, apart, same_eq, all_of, among_yes}
use Rattle.recovery.proofs.Words.{kept, plain_byte}
use Rattle.recovery.proofs.Escapes.{Esc, enil, ebare, eback}
use Rattle.recovery.proofs.Written.Ends.{null_app, ends_by}

-- ---- one of some byte strings

-- a text that ends with none of them has none of them behind any other text
not_among : (y r : Bytes) (xs : List Bytes) → ends_with_any xs (y ++ r) ≡ false → among r xs ≡ false
unfolding among ends_with_any
not_among y r [] h = refl
not_among y r (x ∷ xs) h = rw (go (same r x) refl, not_among y r xs (or_r (ends_with x (y ++ r)) _ h))
  where
    go : (t : Bool) → same r x ≡ t → t ≡ false
    go false e = refl
    go true e =
        let q : r ≡ x = same_eq r x e in
        absurd (true≢false (sym (ends_by x y r (rw q) ∙ e) ∙ or_l (ends_with x (y ++ r)) _ h))

-- ---- no White_Space at the end

-- the text ends with no White_Space character
unfoldable pub settled : Bytes → Bool
settled [] = true
settled (b ∷ s) = not (is_white_space (b ∷ s)) && settled s

-- one that begins with a byte of a word is a blank outside ASCII
pub among_wide : (b : ℕ) (r : Bytes) → plain_byte b ≡ true → is_white_space (b ∷ r) ≡ among (b ∷ r) wide_blanks
unfolding is_white_space white_space_of wide_blanks among same plain_byte kept white isin
among_wide b r p =
    rw (
      apart plain_byte b 9 p refl,
      apart plain_byte b 10 p refl,
      apart plain_byte b 11 p refl,
      apart plain_byte b 12 p refl,
      apart plain_byte b 13 p refl,
      apart plain_byte b 32 p refl,
    )

part_settled : (y z : Bytes) → ends_with_any wide_blanks (y ++ z) ≡ false → every plain_byte z ≡ true → settled z ≡ true
unfolding settled every
part_settled y [] h k = refl
part_settled y (b ∷ z) h k =
    rw (among_wide b z (and_l (plain_byte b) _ k), not_among y (b ∷ z) wide_blanks h)
    (part_settled (y ++ (b ∷ [])) z (rw (append_assoc y (b ∷ []) z) h) (and_r (plain_byte b) _ k))

pub word_settled : (w : Bytes) → ends_with_any wide_blanks w ≡ false → every plain_byte w ≡ true → settled w ≡ true
word_settled w h k = part_settled [] w h k

-- ---- escapes

-- White_Space has no backslash
unfoldable slashless : Bytes → Bool
slashless s = not (isin 92 s)

space_slashless : (s : Bytes) → is_white_space s ≡ true → slashless s ≡ true
unfolding is_white_space
space_slashless s h = among_yes slashless s white_space_of h (unfold white_space_of all_of slashless isin in refl)

-- an escaped text without backslashes is the text
slashless_Esc : {e w : Bytes} → Esc e w → isin 92 e ≡ false → e ≡ w
unfolding isin
slashless_Esc enil h = refl
slashless_Esc (ebare {b} {e} c k) h = ap (λ (r : Bytes). b ∷ r) (slashless_Esc k (or_r (eqb 92 b) _ h))
slashless_Esc (eback p k) h = absurd (true≢false h)

esc_space : (b : ℕ) {e w : Bytes} → Esc e w → is_white_space (b ∷ w) ≡ false → is_white_space (b ∷ e) ≡ false
esc_space b {e} {w} k h = go (is_white_space (b ∷ e)) refl
  where
    go : (t : Bool) → is_white_space (b ∷ e) ≡ t → t ≡ false
    go false q = refl
    go true q =
        let free : isin 92 e ≡ false = unfold slashless isin in or_r (eqb 92 b) _ (not-true _ (space_slashless (b ∷ e) q)) in
        absurd (true≢false (sym q ∙ (ap (λ (r : Bytes). is_white_space (b ∷ r)) (slashless_Esc k free) ∙ h)))

slash_space : (b : ℕ) (e : Bytes) → is_white_space (92 ∷ b ∷ e) ≡ false
unfolding is_white_space white_space_of among same
slash_space b e = refl

pub settled_Esc : {e w : Bytes} → Esc e w → settled w ≡ true → settled e ≡ true
unfolding settled
settled_Esc enil h = refl
settled_Esc (ebare {b} {e} {w} c k) h =
    rw (esc_space b k (not-true _ (and_l (not (is_white_space (b ∷ w))) _ h))) (settled_Esc k (and_r (not (is_white_space (b ∷ w))) _ h))
settled_Esc (eback {b} {e} {w} p k) h =
    rw (slash_space b e, esc_space b k (not-true _ (and_l (not (is_white_space (b ∷ w))) _ h))) (settled_Esc k (and_r (not (is_white_space (b ∷ w))) _ h))

-- ---- the trim

trim_blanks_lem : (z : Bytes) → every blank z ≡ true → trim_end_matches is_white_space z ≡ []
unfolding trim_end_matches every blank unless
trim_blanks_lem [] h = refl
trim_blanks_lem (b ∷ z) h = rw (trim_blanks_lem z (and_r (eqb b 32) _ h), eqb-true b 32 (and_l (eqb b 32) _ h), blank_space)
  where
    blank_space : is_white_space (32 ∷ []) ≡ true
    blank_space = unfold is_white_space white_space_of among same in refl

trim_settled : (e z : Bytes) → settled e ≡ true → every blank z ≡ true → trim_end_matches is_white_space (e ++ z) ≡ e
unfolding settled trim_end_matches unless
trim_settled [] z h k = trim_blanks_lem z k
trim_settled (b ∷ e) z h k =
    rw (trim_settled e z (and_r (not (is_white_space (b ∷ e))) _ h) k, not-true (is_white_space (b ∷ e)) (and_l (not (is_white_space (b ∷ e))) _ h))

-- the blank is a character by itself
unfoldable lonely : Bytes → Bool
lonely s = not (isin 32 s) || null (drop 1 s)

blank_in : (x e : Bytes) → isin 32 (x ++ (32 ∷ e)) ≡ true
unfolding isin
blank_in [] e = refl
blank_in (b ∷ x) e = rw (blank_in x e) (or-true (eqb 32 b))

blank_more : (x e : Bytes) → null e ≡ false → null (drop 1 (x ++ (32 ∷ e))) ≡ false
blank_more [] e h = h
blank_more (b ∷ x) e h = null_app x (32 ∷ e) (unfold null in refl)

pub blank_not : (x e : Bytes) → null e ≡ false → is_white_space (x ++ (32 ∷ e)) ≡ false
blank_not x e h = go (is_white_space (x ++ (32 ∷ e))) refl
  where
    go : (t : Bool) → is_white_space (x ++ (32 ∷ e)) ≡ t → t ≡ false
    go false q = refl
    go true q =
        let l : lonely (x ++ (32 ∷ e)) ≡ true =
        among_yes lonely (x ++ (32 ∷ e)) white_space_of (unfold is_white_space in q) (unfold white_space_of all_of lonely isin null in refl) in
        let m : lonely (x ++ (32 ∷ e)) ≡ false = unfold lonely in rw (blank_in x e, blank_more x e h) in
        absurd (true≢false (sym l ∙ m))

-- the blanks behind a word go, and no more
pub trim_word : (x e z : Bytes) → null e ≡ false → settled e ≡ true → every blank z ≡ true
    → trim_end ((x ++ (32 ∷ e)) ++ z) ≡ x ++ (32 ∷ e)
unfolding trim_end trim_end_matches unless
trim_word [] e z n h k = rw (trim_settled e z h k, blank_not [] e n)
trim_word (b ∷ x) e z n h k = rw (trim_word x e z n h k, blank_not (b ∷ x) e n)
