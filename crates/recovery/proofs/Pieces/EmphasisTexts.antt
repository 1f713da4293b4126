-- What the writer appends for a plain text, and for an emphasis that holds one.
use Rattle.std.specs.Prelude.{ℕ, ◌-◌, ◌≡◌, Bool, true, false, cond, not, ◌&&◌, ◌||◌, List, [], ◌∷◌, ◌++◌, eqb, length, drop}
use Rattle.std.proofs.Common.{arith, ◌∙◌, true≢false, append-nil, append_assoc, length-append}
use Rattle.std.proofs.Math.Path.{refl}
use Rattle.std.proofs.Math.Bool.{and-false}
use Rattle.std.proofs.Math.Seq.{take-append_seam}
use Rattle.spec.specs.Bytes.{Bytes, ascii, null, same, isin, every, starts_with, ends_with, white, words}
use Rattle.spec.specs.Plain.{plain_text}
use Rattle.spec.specs.Md.TextUtils.{ends_with_marker_digits, escaped_chunk, more_words, starts_with_white, ends_with_white, normalized_words, normalized}
use Rattle.spec.specs.Md.Elements.Emphasis.{drop_end}
use Rattle.spec.specs.declared.ctx.FormatOpts.{FormatOpts}
use Rattle.spec.proofs.Tests.{and_l, and_r, or_l, or_r, every_imp}
use Rattle.recovery.proofs.Words.{plain_byte, plain_word, plain_words, plain_bytes, plain_black, blanked, text_some}
use Rattle.recovery.proofs.Escapes.{Esc, enil, ebare, eback, Esc_app, chunk_Esc, more_Esc, null_Esc}
use Rattle.recovery.proofs.Written.Ends.{last_is, first_is, last_keep, last_none, last_some_lem, last_not, last_imp, first_app, ends_by}
use Rattle.recovery.proofs.Written.Normalized.{text_black}
use Rattle.recovery.proofs.Written.Phrases.{word_some}
use Rattle.recovery.proofs.Pieces.Emphasis.{body, blank_before, blank_behind}
use Rattle.recovery.proofs.Pieces.EmphasisSheets.{in_line}

abbrev pub blank_if : Bool → Bytes
blank_if t = cond t (ascii " ") []

-- ---- words in one line

-- what is written of words; start: the first of them may begin a line
unfoldable pub spelled : Bool → List Bytes → Bytes
spelled start [] = []
spelled start (w ∷ ws) = escaped_chunk w true start ++ more_words true ws

pub last_Esc : (q : ℕ → Bool) {e w : Bytes} → Esc e w → last_is q e ≡ last_is q w
unfolding last_is null
last_Esc q enil = refl
last_Esc q (ebare {b} {e} c h) = rw (null_Esc h, last_Esc q h)
last_Esc q (eback {b} {e} p h) = rw (null_Esc h, last_Esc q h)

first_Esc : {e w : Bytes} → Esc e w → first_is white w ≡ false → first_is white e ≡ false
unfolding first_is
first_Esc enil f = f
first_Esc (ebare c h) f = f
first_Esc (eback p h) f = unfold white isin in refl

first_word_lem : (w : Bytes) → plain_word w ≡ true → first_is white w ≡ false
unfolding first_is every null
first_word_lem [] h = absurd (true≢false (word_some [] h))
first_word_lem (b ∷ w) h = plain_black b (and_l (plain_byte b) _ (plain_bytes (b ∷ w) h))

last_word_lem : (w : Bytes) → plain_word w ≡ true → last_is white w ≡ false
last_word_lem w p = last_none white w (every_imp plain_byte (λ b. not (white b)) w (λ b e. unfold plain_byte in and_l (not (white b)) _ e) (plain_bytes w p)) (word_some w p)

last_line_lem : (x : Bytes) (ws : List Bytes) → plain_words ws ≡ true → last_is white x ≡ false → last_is white (x ++ blanked ws) ≡ false
unfolding plain_words blanked
last_line_lem x [] h k = rw (append-nil x) k
last_line_lem x (w ∷ ws) h k =
    rw (← append_assoc x (32 ∷ w) (blanked ws))
    (last_line_lem (x ++ (32 ∷ w)) ws (and_r (plain_word w) _ h) (last_keep white x (32 ∷ w) (last_keep white (32 ∷ []) w (last_word_lem w (and_l (plain_word w) _ h)))))

-- escaped words of a line
pub record Spelled (e : Bytes) (ws : List Bytes) : Type 0 where
  pub esc : Esc e (in_line ws)
  pub first : first_is white e ≡ false
  pub last : last_is white e ≡ false
  pub some : null e ≡ false

line_Esc : (start : Bool) (w : Bytes) (ws : List Bytes) → plain_word w ≡ true → plain_words ws ≡ true → Esc (spelled start (w ∷ ws)) (in_line (w ∷ ws))
unfolding spelled in_line
line_Esc start w ws p q = Esc_app (chunk_Esc start w (plain_bytes w p)) (more_Esc ws q)

pub spelled_line : (start : Bool) (ws : List Bytes) → plain_words ws ≡ true → null ws ≡ false → Spelled (spelled start ws) ws
unfolding null plain_words in_line
spelled_line start [] h n = absurd (true≢false n)
spelled_line start (w ∷ ws) h n =
    let p : plain_word w ≡ true = and_l (plain_word w) _ h in
    let q : plain_words ws ≡ true = and_r (plain_word w) _ h in
    let e : Esc (spelled start (w ∷ ws)) (in_line (w ∷ ws)) = line_Esc start w ws p q in
    let l : last_is white (in_line (w ∷ ws)) ≡ false = last_line_lem w ws q (last_word_lem w p) in
    record {
      esc = e;
      first = first_Esc e (first_app white w (blanked ws) (first_word_lem w p));
      last = last_Esc white e ∙ l;
      some = null_Esc e ∙ last_some_lem white (in_line (w ∷ ws)) l;
    }

-- ---- a text

-- nothing, a line end or a blank ends the text: a text behind it begins with no blank
unfoldable pub shut : Bytes → Bool
shut t = (ends_with (ascii "\n") t || ends_with (ascii " ") t) || null t

unfoldable pub line_start : FormatOpts → Bytes → Bool
line_start opts t = (null t || ends_with (ascii "\n") t) || opts.list_item

appended_words : (opts : FormatOpts) (t s : Bytes) (ws : List Bytes) → opts.skip_escape ≡ false → ends_with_marker_digits t ≡ false → null ws ≡ false
    → normalized_words opts t s ws ≡ blank_if ((opts.inline || not (shut t)) && starts_with_white s) ++ (spelled (line_start opts t) ws ++ blank_if (ends_with_white s))
unfolding normalized_words spelled shut line_start null
appended_words opts t s [] e d n = absurd (true≢false n)
appended_words opts t s (w ∷ ws) e d n =
    rw (e, d, and-false (same w (ascii ".") || same w (ascii ")")), append_assoc (escaped_chunk w true (line_start opts t)) (more_words true ws) (blank_if (ends_with_white s)))

pub appended : (opts : FormatOpts) (t s : Bytes) → opts.skip_escape ≡ false → ends_with_marker_digits t ≡ false → plain_text s ≡ true
    → normalized opts t s ≡ blank_if ((opts.inline || not (shut t)) && starts_with_white s) ++ (spelled (line_start opts t) (words s) ++ blank_if (ends_with_white s))
unfolding normalized
appended opts t s e d h =
    rw (text_black s h, and-false (not (null s)), and-false (not (ends_with (ascii "\n") t || ends_with (ascii " ") t)))
    (appended_words opts t s (words s) e d (text_some s h))

-- ---- the text of an emphasis

-- words, and blanks at either end
abbrev pub padded : Bool → Bytes → Bool → Bytes
padded l e r = blank_if l ++ (e ++ blank_if r)

black_blank : (b : ℕ) → white b ≡ false → eqb b 32 ≡ false
unfolding white isin
black_blank b h = or_l (eqb b 32) false (or_r (eqb b 13) _ (or_r (eqb b 12) _ (or_r (eqb b 10) _ (or_r (eqb b 9) _ h))))

starts_black_lem : (e r : Bytes) → first_is white e ≡ false → starts_with (ascii " ") (e ++ r) ≡ false
unfolding first_is starts_with same
starts_black_lem [] r h = absurd (true≢false h)
starts_black_lem (b ∷ e) r h = rw (black_blank b h)

pub ends_black : (x : Bytes) → last_is white x ≡ false → ends_with (ascii " ") x ≡ false
ends_black x h = last_not [] 32 x (last_imp white (λ b. eqb b 32) black_blank x h)

starts_padded : (l r : Bool) (e : Bytes) → first_is white e ≡ false → starts_with (ascii " ") (padded l e r) ≡ l
starts_padded true r e f = unfold starts_with same in refl
starts_padded false r e f = starts_black_lem e (blank_if r) f

begun_padded : (l r : Bool) (e : Bytes) → cond l (drop 1 (padded l e r)) (padded l e r) ≡ e ++ blank_if r
begun_padded true r e = refl
begun_padded false r e = refl

ends_padded : (r : Bool) (e : Bytes) → last_is white e ≡ false → ends_with (ascii " ") (e ++ blank_if r) ≡ r
ends_padded true e l = ends_by (ascii " ") e (ascii " ") refl ∙ unfold same in refl
ends_padded false e l = rw (append-nil e) (ends_black e l)

cut_padded : (r : Bool) (e : Bytes) → cond r (drop_end 1 (e ++ blank_if r)) (e ++ blank_if r) ≡ e
unfolding drop_end
cut_padded true e =
    let n : length (e ++ ascii " ") - 1 ≡ length e = rw (length-append e (ascii " ")) (omega arith) in
    rw n (take-append_seam e (ascii " "))
cut_padded false e = append-nil e

pub body_padded : (l r : Bool) (e : Bytes) → first_is white e ≡ false → last_is white e ≡ false → body (padded l e r) ≡ e
unfolding body
body_padded l r e f g = rw (starts_padded l r e f, begun_padded l r e, ends_padded r e g) (cut_padded r e)

pub behind_padded : (l r : Bool) (e : Bytes) → first_is white e ≡ false → last_is white e ≡ false → blank_behind (padded l e r) ≡ blank_if r
unfolding blank_behind
behind_padded l r e f g = rw (starts_padded l r e f, begun_padded l r e, ends_padded r e g)

pub before_padded : (l r : Bool) (e acc : Bytes) → first_is white e ≡ false → blank_before (padded l e r) acc ≡ blank_if (l && not (ends_with (ascii " ") acc))
unfolding blank_before
before_padded l r e acc f = rw (starts_padded l r e f)
