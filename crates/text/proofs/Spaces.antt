-- Blanks and line breaks at the end of a text.
use Prim.Native.Nat.{ℕ, zero, suc, ◌-◌, ◌≤◌, ◌<◌}
use mathlib.Core.Path.{◌≡◌, refl, sym, ap, ◌∙◌}
use mathlib.Core.Bool.{true, false, ◌||◌}
use lib.Dec.{eqb}
use mathlib.Core.List.{List, [], ◌∷◌, ◌++◌}
use native.Mathlib.Omega.{arith}
use lib.ListN.{length, take, drop}
use lib.Seq.{length-take-le, take-take}
use Rattle.spec.specs.Bytes.{ends_with, one, white, trim_end_matches, trim_start_matches, trim_ascii_end, trim_ascii_start}
use Rattle.spec.specs.Out.{cut, keep, push, replace, and_then}
use Rattle.spec.specs.Md.TextUtils.{escape_trailing_bang, ends_with_white, push_block_space, trim_space, breaks_until}
use Rattle.text.specs.Trimmed.{Trimmed, Skipped}
use Rattle.text.specs.Writes.{Written}
use Rattle.spec.proofs.Tests.{same_eq}
use Rattle.input.proofs.Rules.{null_length}
use Rattle.text.proofs.Reading.{drop_take}

-- a trim of the text
pub cut_done : (f : List ℕ → List ℕ) (d : List ℕ) (len n : ℕ) → len ≤ length d → Trimmed (take len d) n (f (take len d)) → Written (length d) d n (cut f (take len d))
unfolding cut
cut_done f d len n h t =
    let l : n ≤ len = omega (arith, t.within, length-take-le len d h) in
    let e : take n d ≡ f (take len d) = sym (take-take n len d l) ∙ t.is in
    record { long = refl; fits = omega arith; count = sym (sym (ap length e) ∙ length-take-le n d (omega arith)); text_is = e }

-- a trim at both ends: the rest is moved to the front
pub cut_both : (f : List ℕ → List ℕ) (d after : List ℕ) (len n k : ℕ) → len ≤ length d → n ≤ length (take len d) → Skipped (take n d) k (f (take len d))
    → take (n - k) after ≡ take (n - k) (drop k d) → length after ≡ length d → Written (length d) after (n - k) (cut f (take len d))
unfolding cut
cut_both f d after len n k h l u e q =
    let z : take (n - k) after ≡ f (take len d) = e ∙ sym (drop_take k n d) ∙ u.is in
    record { long = q; fits = omega arith; count = sym (sym (ap length z) ∙ length-take-le (n - k) after (omega (arith, length-take-le len d h))); text_is = z }

-- what is skipped of the text when its end is trimmed
pub skipped_in : (g : List ℕ → List ℕ) {short : List ℕ} (d : List ℕ) (len n k : ℕ) → len ≤ length d → Trimmed (take len d) n short → Skipped (take n d) k (g (take n d))
    → Skipped (take n d) k (g short)
skipped_in g {short} d len n k h t u =
    let l : n ≤ len = omega (arith, t.within, length-take-le len d h) in
    record { within = u.within; is = u.is ∙ ap g (sym (take-take n len d l) ∙ t.is) }

-- ---- a `!` at the end

pub bang_none : (t : List ℕ) → ends_with (33 ∷ []) t ≡ false → escape_trailing_bang t ≡ keep t
unfolding escape_trailing_bang
bang_none t e = rw e

-- a backslash is put before it
pub bang_some : (t : List ℕ) → ends_with (33 ∷ []) t ≡ true → escape_trailing_bang t ≡ replace (λ u. take (length t - 1) u ++ (92 ∷ drop (length t - 1) u)) t
unfolding escape_trailing_bang ends_with replace
bang_some t e = let q : drop (length t - 1) t ≡ 33 ∷ [] = same_eq _ _ e in rw (e, q)

-- ---- a blank between blocks

pub space_kept : (t : List ℕ) (n : ℕ) → n ≡ length t → (eqb n 0 || ends_with_white t) ≡ true → push_block_space t ≡ keep t
unfolding push_block_space
space_kept t n l e = rw (null_length t, sym l, e)

pub space_push : (t : List ℕ) (n : ℕ) → n ≡ length t → (eqb n 0 || ends_with_white t) ≡ false → push_block_space t ≡ push (32 ∷ []) t
unfolding push_block_space
space_push t n l e = rw (null_length t, sym l, e)

-- ---- white bytes at both ends

pub trim_space_done : (d after : List ℕ) (len n k : ℕ) → len ≤ length d → Trimmed (take len d) n (trim_end_matches (one white) (take len d))
    → Skipped (take n d) k (trim_start_matches white (take n d)) → take (n - k) after ≡ take (n - k) (drop k d) → length after ≡ length d
    → Written (length d) after (n - k) (trim_space (take len d))
unfolding trim_space trim_ascii_end trim_ascii_start
trim_space_done d after len n k h t u e f = cut_both (λ s. trim_start_matches white (trim_end_matches (one white) s)) d after len n k h t.within (skipped_in (trim_start_matches white) d len n k h t u) e f

-- ---- line breaks

pub breaks_none : (lb end t : List ℕ) (left : ℕ) → left ≤ 0 → breaks_until left lb end t ≡ keep t
unfolding breaks_until
breaks_none lb end t zero h = refl
breaks_none lb end t (suc n) h = absurd (omega arith)

pub breaks_ended : (lb end t : List ℕ) (left : ℕ) → 0 < left → ends_with end t ≡ true → breaks_until left lb end t ≡ keep t
unfolding breaks_until
breaks_ended lb end t zero h e = absurd (omega arith)
breaks_ended lb end t (suc n) h e = rw e

pub breaks_more : (lb end t : List ℕ) (left : ℕ) → 0 < left → ends_with end t ≡ false → breaks_until left lb end t ≡ and_then (push lb t) (breaks_until (left - 1) lb end)
unfolding breaks_until
breaks_more lb end t zero h e = absurd (omega arith)
breaks_more lb end t (suc n) h e = let q : suc n - 1 ≡ n = omega arith in rw (e, q)
