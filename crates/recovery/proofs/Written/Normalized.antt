-- What the writer appends for a plain text at the beginning of a line is its phrase.
use Rattle.std.specs.Prelude.{ℕ, ◌-◌, ◌≡◌, refl, Bool, true, false, cond, not, ◌||◌, List, [], ◌∷◌, ◌++◌, eqb, length}
use Rattle.std.proofs.Common.{arith, sym, ap, ◌∙◌, true≢false, append_assoc}
use Rattle.std.proofs.Math.Bool.{and-false}
use Rattle.spec.specs.Bytes.{Bytes, ascii, null, same, isin, every, ends_with, white, digit, trim_end_matches, is_blank, cut_at, parts, split, filled, words}
use Rattle.spec.specs.Plain.{plain_text}
use Rattle.spec.specs.Md.TextUtils.{ends_with_marker_digits, ends_with_white, more_words, escaped_chunk, normalized_words, normalized}
use Rattle.spec.specs.Md.Elements.Table.{pipes_escaped}
use Rattle.spec.specs.declared.ctx.FormatOpts.{FormatOpts}
use Rattle.spec.proofs.Tests.{and_l, and_r}
use Rattle.recovery.proofs.Words.{text_some}
use Rattle.recovery.proofs.Escapes.{bare, bare_not, Esc, enil, ebare, eback}
use Rattle.recovery.proofs.Written.Ends.{last_is, last_app, trim_fix}
use Rattle.recovery.specs.Closed.{phrase}

-- an escaped text keeps its pipes as they are
pub pipes_Esc : {e w : Bytes} (s : Bool) → Esc e w → pipes_escaped s e ≡ e
unfolding pipes_escaped
pipes_Esc s enil = refl
pipes_Esc s (ebare {b} q h) = rw (bare_not b 124 q (unfold bare isin in refl)) (ap (λ (r : Bytes). b ∷ r) (pipes_Esc (eqb b 92) h))
pipes_Esc s (eback {b} p h) = rw (and-false (eqb b 124)) (ap (λ (r : Bytes). 92 ∷ b ∷ r) (pipes_Esc (eqb b 92) h))

-- white bytes alone hold no word
pub white_parts : (s : Bytes) → every white s ≡ true → ((parts white s).0 ≡ []) × (filled (parts white s).1 ≡ [])
unfolding every parts cut_at filled null
white_parts [] h = (refl, refl)
white_parts (b ∷ s) h =
    let r : ((parts white s).0 ≡ []) × (filled (parts white s).1 ≡ []) = white_parts s (and_r (white b) _ h) in
    rw (and_l (white b) _ h) (refl, rw r.0 r.1)

pub white_words : (s : Bytes) → every white s ≡ true → words s ≡ []
unfolding words split filled null
white_words s h = rw (white_parts s h).0 (white_parts s h).1

pub text_black : (s : Bytes) → plain_text s ≡ true → is_blank s ≡ false
unfolding is_blank null
text_black s h = go (every white s) refl
  where
    go : (t : Bool) → every white s ≡ t → t ≡ false
    go true e = absurd (true≢false (sym (ap null (white_words s e)) ∙ text_some s h))
    go false e = refl

pub normalized_words_lem : (opts : FormatOpts) (t s : Bytes) (ws : List Bytes)
    → opts.skip_escape ≡ false
    → opts.inline ≡ false
    → ((ends_with (ascii "\n") t || ends_with (ascii " ") t) || null t) ≡ true
    → ((null t || ends_with (ascii "\n") t) || opts.list_item) ≡ true
    → ends_with_marker_digits t ≡ false
    → null ws ≡ false
    → normalized_words opts t s ws ≡ phrase ws ++ cond (ends_with_white s) (ascii " ") []
unfolding normalized_words phrase null
normalized_words_lem opts t s [] e n f l d k = absurd (true≢false k)
normalized_words_lem opts t s (w ∷ ws) e n f l d k =
    rw (e, n, f, l, d, and-false (same w (ascii ".") || same w (ascii ")")))
    (sym (append_assoc (escaped_chunk w true true) (more_words true ws) (cond (ends_with_white s) (ascii " ") [])))

-- at the beginning of a line, or under `list_item`: the phrase, and a blank for white bytes at the text's end
pub normalized_phrase : (opts : FormatOpts) (t s : Bytes)
    → opts.skip_escape ≡ false
    → opts.inline ≡ false
    → ((ends_with (ascii "\n") t || ends_with (ascii " ") t) || null t) ≡ true
    → ((null t || ends_with (ascii "\n") t) || opts.list_item) ≡ true
    → ends_with_marker_digits t ≡ false
    → plain_text s ≡ true
    → normalized opts t s ≡ phrase (words s) ++ cond (ends_with_white s) (ascii " ") []
unfolding normalized
normalized_phrase opts t s e n f l d h =
    rw (text_black s h, and-false (not (null s)), and-false (not (ends_with (ascii "\n") t || ends_with (ascii " ") t))) (go (words s) (text_some s h))
  where
    go : (ws : List Bytes) → null ws ≡ false → normalized_words opts t s ws ≡ phrase ws ++ cond (ends_with_white s) (ascii " ") []
    go ws k = normalized_words_lem opts t s ws e n f l d k

-- a text that ends with no digit ends with no digits of a marker
pub no_marker_digits : (t : Bytes) (b : ℕ) → digit b ≡ false → ends_with_marker_digits (t ++ (b ∷ [])) ≡ false
unfolding ends_with_marker_digits
no_marker_digits t b h =
    let none : length (t ++ (b ∷ [])) - length (t ++ (b ∷ [])) ≡ 0 = omega arith in
    rw (trim_fix digit (t ++ (b ∷ [])) (last_app digit t (b ∷ []) (unfold null in refl) ∙ unfold last_is null in h), none)

pub no_marker_empty : ends_with_marker_digits [] ≡ false
unfolding ends_with_marker_digits trim_end_matches
no_marker_empty = refl
