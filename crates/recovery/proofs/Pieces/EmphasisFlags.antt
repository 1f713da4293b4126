-- What stands beside an emphasis: last bytes, blanks and the flanking tests, for words and for what is written of them.
use Rattle.std.specs.Prelude.{ℕ, ◌≡◌, refl, Bool, true, not, ◌&&◌, ◌||◌, drop, length}
use Rattle.std.proofs.Common.{sym, ◌∙◌, true≢false}
use Rattle.std.proofs.Math.Bool.{false, and-false}
use Rattle.std.proofs.lemmas.Bool.{false≢true}
use mathlib.Core.List.{[], ◌∷◌, ◌++◌}
use Rattle.spec.specs.Bytes.{Bytes, ascii, null, same, isin, every, white, digit, ends_with, trim_ascii_end}
use Rattle.spec.specs.Md.TextUtils.{ends_with_marker_digits}
use Rattle.spec.specs.Md.Elements.Emphasis.{ends_with_emphasis, is_exact_marker_end}
use Rattle.spec.specs.Reading.Lines.{punctuation, letter, letter_or_digit}
use Rattle.spec.proofs.Tests.{and_l, or_elim}
use Rattle.recovery.proofs.Escapes.{bare, Esc, enil, ebare, eback}
use Rattle.recovery.proofs.Written.Ends.{last_is, first_is, last_not, first_app, last_some_lem, Snoc, snoc, trim_cut}
use Rattle.recovery.proofs.Written.Normalized.{no_marker_digits}
use Rattle.recovery.proofs.Pieces.Emphasis.{star}
use Rattle.recovery.proofs.Pieces.EmphasisTokens.{extra, marks}
use Rattle.recovery.proofs.Pieces.EmphasisSpelt.{lettered, edge, white_behind}
use Rattle.recovery.proofs.Pieces.EmphasisTexts.{blank_if}
use Rattle.recovery.proofs.Pieces.EmphasisElements.{edge_wide}

-- ---- last bytes

pub no_digits : (x : Bytes) → last_is digit x ≡ false → ends_with_marker_digits x ≡ false
no_digits x h =
    let r : Snoc digit x = snoc digit x h in
    rw r.is (no_marker_digits r.front r.byte r.other)

-- no emphasis has just ended behind a word that ends with no asterisk
pub quiet_word : (m : Bool) (x z : Bytes) → last_is white x ≡ false → last_is star x ≡ false → every white z ≡ true → ends_with_emphasis (marks m) (x ++ z) ≡ false
unfolding ends_with_emphasis trim_ascii_end star
quiet_word m x z l s h =
    rw (trim_cut white x z l h) (by m)
  where
    unmarked : (t : Bytes) → last_is star t ≡ false → (n : Bool) → ends_with (marks n) t ≡ false
    unmarked t q true = unfold extra in last_not (42 ∷ []) 42 t q
    unmarked t q false = unfold extra in last_not [] 42 t q

    exact : (n : Bool) → ends_with (marks n) x ≡ false
    exact n = unmarked x s n

    by : (m : Bool)
        → (not (null (marks m) || null (x ++ z)) && ((null (drop (length x) (x ++ z)) || same (drop (length x) (x ++ z)) (ascii " ")) && is_exact_marker_end x (marks m))) ≡ false
    by m = unfold is_exact_marker_end in rw (exact m, and-false (null (drop (length x) (x ++ z)) || same (drop (length x) (x ++ z)) (ascii " ")), and-false (not (null (marks m) || null (x ++ z))))

-- ---- the flags

edge_sign : (p : Bool) (b : ℕ) → punctuation b ≡ true → edge p b ≡ true → edge p 92 ≡ true
unfolding edge letter_or_digit letter digit punctuation
edge_sign p b c h = and_true_by (or_elim {0} (letter_or_digit b) _ (λ e. absurd (true≢false (sym c ∙ (lettered b e).0))) (λ e. and_l p _ e) h)
  where
    and_true_by : p ≡ true → (p && true) ≡ true
    and_true_by e = rw e

pub first_edge : (p : Bool) {e w : Bytes} → Esc e w → first_is (edge p) w ≡ true → first_is (edge p) e ≡ true
unfolding first_is
first_edge p enil h = h
first_edge p (ebare c q) h = h
first_edge p (eback {b} c q) h = edge_sign p b c h

pub first_wide : (p q : Bool) (x : Bytes) → (p ≡ true → q ≡ true) → first_is (edge p) x ≡ true → first_is (edge q) x ≡ true
unfolding first_is
first_wide p q [] f h = refl
first_wide p q (b ∷ x) f h = edge_wide p q b f h

pub last_wide : (p q : Bool) (x : Bytes) → (p ≡ true → q ≡ true) → last_is (edge p) x ≡ true → last_is (edge q) x ≡ true
unfolding last_is null
last_wide p q [] f h = refl
last_wide p q (b ∷ []) f h = edge_wide p q b f h
last_wide p q (b ∷ c ∷ x) f h = last_wide p q (c ∷ x) f h

-- blanks before an emphasis, where b tells whether the emphasis brings one
pub white_before : (p r w b : Bool) → ((p || r) || w) ≡ true → (r ≡ false → b ≡ false → w ≡ true → p ≡ true) → white_behind p (blank_if r ++ blank_if b) ≡ true
unfolding white_behind null last_is white isin
white_before p true w true h f = refl
white_before p true w false h f = refl
white_before p false w true h f = refl
white_before true false w false h f = refl
white_before false false w false h f = f refl refl h

pub blanks_white : (r b : Bool) → every white (blank_if r ++ blank_if b) ≡ true
unfolding every white isin
blanks_white true true = refl
blanks_white true false = refl
blanks_white false true = refl
blanks_white false false = refl

pub blank_Esc : (b : Bool) → Esc (blank_if b) (blank_if b)
unfolding bare isin
blank_Esc true = ebare refl enil
blank_Esc false = enil

pub black_behind : (p : Bool) (x : Bytes) → last_is white x ≡ false → white_behind p x ≡ false
unfolding white_behind
black_behind p x h = rw (last_some_lem white x h, h)

-- a text that begins with a blank, or with the bytes e
pub blank_first : (r l : Bool) (e c : Bytes) → (r || l) ≡ true → first_is white ((blank_if r ++ (blank_if l ++ e)) ++ c) ≡ true
unfolding first_is white isin
blank_first true l e c h = refl
blank_first false true e c h = refl
blank_first false false e c h = absurd (false≢true h)

pub black_first_lem : (r l : Bool) (e c : Bytes) → r ≡ false → l ≡ false → first_is white e ≡ false → first_is white ((blank_if r ++ (blank_if l ++ e)) ++ c) ≡ false
black_first_lem r l e c p q h = rw (p, q) (first_app white e c h)
