-- Texts with backslash escapes and character references, and what they mean.
use Rattle.std.specs.Prelude.{ℕ, suc, ◌≡◌, refl, Bool, true, false, not, [], ◌∷◌, ◌++◌, eqb, length}
use Rattle.std.proofs.Math.Bool.{or-true}
use Rattle.std.proofs.Common.{append_assoc}
use Rattle.std.proofs.Math.Option.{some}
use Rattle.spec.specs.Bytes.{Bytes, isin, every, take_while}
use Rattle.spec.specs.Reading.Lines.{punctuation}
use Rattle.spec.specs.Pieces.Links.{References, ref_name, escapes, referred, unit, meaning}
use Rattle.spec.proofs.Tests.{and_l, and_r, apart}

-- a byte that means itself: neither backslash nor `&`
unfoldable pub literal : ℕ → Bool
literal b = not (isin b (38 ∷ 92 ∷ []))

unfoldable pub named : ℕ → Bool
named b = not (eqb b 59)

-- e means w
pub data Means (known : References) : Bytes → Bytes → Type 0 where
  mnil : Means known [] []
  mlit : {b : ℕ} {e w : Bytes} → literal b ≡ true → Means known e w → Means known (b ∷ e) (b ∷ w)
  mback : {b : ℕ} {e w : Bytes} → punctuation b ≡ true → Means known e w → Means known (92 ∷ b ∷ e) (b ∷ w)
  mref : {e w : Bytes} (name v : Bytes) → every named name ≡ true → known name ≡ some v → Means known e w
      → Means known (38 ∷ (name ++ (59 ∷ e))) (v ++ w)

pub Means_app : {known : References} {e w f v : Bytes} → Means known e w → Means known f v → Means known (e ++ f) (w ++ v)
Means_app mnil k = k
Means_app (mlit l h) k = mlit l (Means_app h k)
Means_app (mback p h) k = mback p (Means_app h k)
Means_app (mref {e} {w} name v n i h) k =
    rw (append_assoc v w, append_assoc name (59 ∷ e)) (mref name v n i (Means_app h k))

pub means_itself : (known : References) (s : Bytes) → every literal s ≡ true → Means known s s
unfolding every
means_itself known [] h = mnil
means_itself known (b ∷ s) h = mlit (and_l (literal b) _ h) (means_itself known s (and_r (literal b) _ h))

-- ---- references

pub escapes_no : (b : ℕ) (r : Bytes) → eqb b 92 ≡ false → escapes b r ≡ false
unfolding escapes
escapes_no b [] h = refl
escapes_no b (c ∷ r) h = rw h

name_found : (name e : Bytes) → every named name ≡ true → ref_name (name ++ (59 ∷ e)) ≡ name
unfolding ref_name take_while every named
name_found [] e h = refl
name_found (b ∷ name) e h = rw (and_l (not (eqb b 59)) _ h, name_found name e (and_r (not (eqb b 59)) _ h))

semicolon_in : (name e : Bytes) → isin 59 (name ++ (59 ∷ e)) ≡ true
unfolding isin
semicolon_in [] e = refl
semicolon_in (b ∷ name) e = rw (semicolon_in name e) (or-true (eqb 59 b))

behind_name_lem : (known : References) (name e : Bytes) → meaning known (suc (length name)) (name ++ (59 ∷ e)) ≡ meaning known 0 e
unfolding meaning
behind_name_lem known [] e = refl
behind_name_lem known (b ∷ name) e = behind_name_lem known name e

-- ---- the meaning

pub means : {known : References} {e w : Bytes} → Means known e w → meaning known 0 e ≡ w
unfolding meaning unit referred
means mnil = refl
means (mlit {b} {e} l h) =
    rw (
      escapes_no b e (apart literal b 92 l (unfold literal isin in refl)),
      apart literal b 38 l (unfold literal isin in refl),
      means h,
    )
means (mback {b} {e} p h) =
    let y : escapes 92 (b ∷ e) ≡ true = unfold escapes in p in
    rw (y, means h)
means {known} (mref {e} name v n i h) =
    rw (
      escapes_no 38 (name ++ (59 ∷ e)) refl,
      semicolon_in name e,
      name_found name e n,
      i,
      behind_name_lem known name e,
      means h,
    )
