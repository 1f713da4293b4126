-- What `push_title` appends.
use Rattle.std.specs.Prelude.{ℕ, ◌-◌, ◌≡◌, Bool, cond, not, ◌&&◌, ◌||◌, length}
use Rattle.std.proofs.Common.{arith, sym, ◌∙◌, true≢false}
use Rattle.std.proofs.Math.Path.{refl}
use Rattle.std.proofs.Math.Bool.{true, false, and-false}
use mathlib.Core.List.{List, [], ◌∷◌, ◌++◌, append_assoc}
use Rattle.spec.specs.Bytes.{Bytes, ascii, null, same, isin, every, ends_with, white, digit, trim_end_matches, is_blank, words}
use Rattle.spec.specs.Out.{push, and_then, beside, nested}
use Rattle.spec.specs.Md.Ctx.{new}
use Rattle.spec.specs.Md.TextUtils.{ends_with_marker_digits, normalized_words, normalized, push_normalized_text, quote_escaped, each_byte, quoted_title, push_title}
use Rattle.spec.proofs.Tests.{isin_lacks}
use Rattle.recovery.proofs.Written.Ends.{last_is, trim_fix, ends_not, last_keep, null_app}
use Rattle.recovery.proofs.Pieces.Titles.{title_words, title_body, title_of}

no_digits : (t : Bytes) → last_is digit t ≡ false → ends_with_marker_digits t ≡ false
unfolding ends_with_marker_digits
no_digits t h = let n : length t - length t ≡ 0 = omega arith in rw (trim_fix digit t h, n)

words_behind : (t title : Bytes) (ws : List Bytes) → ends_with (ascii "\n") t ≡ false → ends_with (ascii " ") t ≡ false → null t ≡ false
    → ends_with_marker_digits t ≡ false → normalized_words new t title ws ≡ title_words false title ws
unfolding normalized_words title_words
words_behind t title [] e f n d = refl
words_behind t title (w ∷ ws) e f n d = rw (e, f, n, d, and-false (same w (ascii ".") || same w (ascii ")")))

words_fresh : (title : Bytes) (ws : List Bytes) → normalized_words new [] title ws ≡ title_words true title ws
unfolding normalized_words title_words
words_fresh title [] = refl
words_fresh title (w ∷ ws) =
    let e : ends_with (ascii "\n") [] ≡ false = unfold ends_with same in refl in
    let f : ends_with (ascii " ") [] ≡ false = unfold ends_with same in refl in
    let n : null {A = ℕ} [] ≡ true = unfold null in refl in
    let d : ends_with_marker_digits [] ≡ false = unfold ends_with_marker_digits trim_end_matches in refl in
    rw (e, f, n, d, and-false (same w (ascii ".") || same w (ascii ")")))

-- behind a quotation mark
normal_behind : (t title : Bytes)
    → normalized new (t ++ ascii " \"") title
    ≡ cond (not (null title) && is_blank title) (ascii " ") (title_words false title (words title))
unfolding normalized
normal_behind t title =
    let a : t ++ ascii " \"" ≡ (t ++ ascii " ") ++ ascii "\"" = simp append_assoc in
    let e : ends_with (ascii "\n") (t ++ ascii " \"") ≡ false = rw a (ends_not [] 10 (t ++ ascii " ") 34 refl) in
    let f : ends_with (ascii " ") (t ++ ascii " \"") ≡ false = rw a (ends_not [] 32 (t ++ ascii " ") 34 refl) in
    let n : null (t ++ ascii " \"") ≡ false = null_app t (ascii " \"") (unfold null in refl) in
    let l : last_is digit (t ++ ascii " \"") ≡ false = last_keep digit t (ascii " \"") (unfold last_is null digit in refl) in
    rw (e, f, words_behind (t ++ ascii " \"") title (words title) e f n (no_digits _ l))

-- a title that holds a quotation mark is not blank
quote_filled : (title : Bytes) → isin 34 title ≡ true → is_blank title ≡ false
unfolding is_blank
quote_filled title h = go (every white title) refl
  where
    go : (t : Bool) → every white title ≡ t → t ≡ false
    go true e = absurd (true≢false (sym h ∙ isin_lacks white 34 title e (unfold white isin in refl)))
    go false e = refl

normal_fresh : (title : Bytes) → isin 34 title ≡ true → normalized new [] title ≡ title_words true title (words title)
unfolding normalized
normal_fresh title h =
    rw (quote_filled title h, and-false (not (null title)), and-false (not (ends_with (ascii "\n") [] || ends_with (ascii " ") [])))
    (words_fresh title (words title))

escaped_text : (title t : Bytes) → isin 34 title ≡ true
    → (quoted_title title t).text ≡ t ++ each_byte quote_escaped (title_words true title (words title))
unfolding quoted_title nested beside push push_normalized_text
escaped_text title t h = rw (normal_fresh title h)

plain_text_lem : (title text : Bytes)
    → (push_normalized_text title new (text ++ ascii " \"")).text
    ≡ (text ++ ascii " \"") ++ cond (not (null title) && is_blank title) (ascii " ") (title_words false title (words title))
unfolding push_normalized_text push
plain_text_lem title text = rw (normal_behind text title)

-- `push_title` appends a blank and the title
pub title_text : (title text : Bytes) → (push_title title text).text ≡ text ++ (32 ∷ title_of title)
unfolding push_title title_of title_body push and_then
title_text title text = go (isin 34 title) refl
  where
    go : (t : Bool) → isin 34 title ≡ t
        → (cond t (quoted_title title) (push_normalized_text title new) (text ++ ascii " \"")).text ++ ascii "\""
        ≡ text ++ (32 ∷ 34 ∷ (cond t (each_byte quote_escaped (title_words true title (words title)))
        (cond (not (null title) && is_blank title) (ascii " ") (title_words false title (words title))) ++ (34 ∷ [])))
    go true e = rw (escaped_text title (text ++ ascii " \"") e) (simp append_assoc)
    go false e = rw (plain_text_lem title text) (simp append_assoc)
