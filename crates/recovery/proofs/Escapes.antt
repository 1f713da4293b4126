-- Escapes: what is written of words is, for the reading, those words and nothing else.
use Rattle.std.specs.Prelude.{ℕ, ◌≡◌, refl, Bool, true, false, cond, not, ◌&&◌, List, [], ◌∷◌, ◌++◌, map, eqb}
use Rattle.std.proofs.Common.{ap, ◌∙◌}
use Rattle.std.proofs.lemmas.Bool.{false≢true}
use Rattle.spec.specs.Bytes.{Bytes, ascii, null, same, isin, every, starts_with, white, parts, split, filled, words}
use Rattle.spec.specs.Entries.{word}
use Rattle.spec.specs.Md.TextUtils.{is_escaped, escaped_from, escaped_chunk, more_words}
use Rattle.spec.specs.Reading.Lines.{punctuation, head_is}
use Rattle.spec.specs.Reading.Inline as reading
use Rattle.spec.specs.Reading.Inline.{escaped, slashed, unescape, anywhere, mark, space_mark, no_mark, begins_by, begins, pieces, inline}
use Rattle.spec.proofs.Tests.{and_l, and_r, and_no, or_l, or_elim, apart, isin_no, isin_yes, eqb_yes}
use Rattle.recovery.proofs.Words.{kept, plain_byte, plain_word, plain_words, plain_bytes, blanked, words_line, words_blanked}
use Rattle.recovery.specs.Closed.{phrase, hash, heading_word, heading_words}

-- ---- the relation

-- a byte that means nothing but itself wherever it stands in a line
unfoldable pub bare : ℕ → Bool
bare b = not (isin b (0 ∷ 9 ∷ 10 ∷ 11 ∷ 12 ∷ 13 ∷ 38 ∷ 42 ∷ 60 ∷ 91 ∷ 92 ∷ 93 ∷ 95 ∷ 96 ∷ 124 ∷ 126 ∷ []))

-- e is w with some punctuation behind backslashes, and every byte with a meaning among it
pub data Esc : Bytes → Bytes → Type 0 where
  enil : Esc [] []
  ebare : {b : ℕ} {e w : Bytes} → bare b ≡ true → Esc e w → Esc (b ∷ e) (b ∷ w)
  eback : {b : ℕ} {e w : Bytes} → punctuation b ≡ true → Esc e w → Esc (92 ∷ b ∷ e) (b ∷ w)

pub Esc_app : {e w f v : Bytes} → Esc e w → Esc f v → Esc (e ++ f) (w ++ v)
Esc_app enil k = k
Esc_app (ebare c h) k = ebare c (Esc_app h k)
Esc_app (eback p h) k = eback p (Esc_app h k)

pub bare_not : (b x : ℕ) → bare b ≡ true → bare x ≡ false → eqb b x ≡ false
bare_not b x h n = apart bare b x h n

-- ---- the backslashes go

pub unescape_Esc : {e w : Bytes} → Esc e w → unescape false e ≡ w
unfolding unescape reading.bare escaped slashed
unescape_Esc enil = refl
unescape_Esc (ebare {b} c h) = rw (bare_not b 92 c (unfold bare isin in refl), unescape_Esc h)
unescape_Esc (eback p h) = rw (p, unescape_Esc h)

-- ---- nothing else begins

pub no_break : {e w : Bytes} → Esc e w → starts_with (10 ∷ []) e ≡ false
unfolding starts_with same
no_break enil = refl
no_break (ebare {b} c h) = rw (bare_not b 10 c (unfold bare isin in refl))
no_break (eback p h) = refl

no_hard_break : {e w : Bytes} → Esc e w → starts_with (32 ∷ 10 ∷ []) e ≡ false
unfolding starts_with same
no_hard_break enil = refl
no_hard_break (ebare {b} {e} c h) = and_no (eqb b 32) _ (no_break h)
no_hard_break (eback p h) = refl

mark_bare : (b : ℕ) → bare b ≡ true → mark b ≡ cond (eqb b 32) space_mark no_mark
unfolding mark bare isin
mark_bare b c =
    rw (
      bare_not b 96 c refl,
      bare_not b 42 c refl,
      bare_not b 95 c refl,
      bare_not b 91 c refl,
      bare_not b 60 c refl,
      bare_not b 38 c refl,
      bare_not b 92 c refl,
    )

pub begins_bare : (p b : ℕ) (e : Bytes) → bare b ≡ true → starts_with (32 ∷ 10 ∷ []) e ≡ false → begins p b e ≡ false
unfolding begins begins_by
begins_bare p b e c n = rw (mark_bare b c) (go (eqb b 32))
  where
    go : (t : Bool) → begins_by (cond t space_mark no_mark) p b e ≡ false
    go true = n
    go false = refl

pub begins_back : (p b : ℕ) (e : Bytes) → punctuation b ≡ true → begins p 92 (b ∷ e) ≡ false
unfolding begins begins_by mark isin head_is punctuation
begins_back p b e k = rw (apart punctuation b 10 k refl)

pub anywhere_Esc : {e w : Bytes} (p : ℕ) → Esc e w → anywhere begins p false e ≡ false
unfolding anywhere escaped slashed
anywhere_Esc p enil = refl
anywhere_Esc p (ebare {b} {e} c h) =
    rw (begins_bare p b e c (no_hard_break h), bare_not b 92 c (unfold bare isin in refl)) (anywhere_Esc _ h)
anywhere_Esc p (eback {b} {e} k h) = rw (begins_back p b e k, k) (anywhere_Esc _ h)

pub inline_Esc : {e w : Bytes} → Esc e w → inline e ≡ map word (words w)
unfolding inline pieces
inline_Esc h = rw (anywhere_Esc 32 h, unescape_Esc h)

-- a class that has the backslash and all of w has all of e
pub every_Esc : (q : ℕ → Bool) {e w : Bytes} → q 92 ≡ true → Esc e w → every q w ≡ true → every q e ≡ true
unfolding every
every_Esc q z enil k = refl
every_Esc q z (ebare {b} c h) k = rw (and_l (q b) _ k) (every_Esc q z h (and_r (q b) _ k))
every_Esc q z (eback {b} p h) k = rw (z, and_l (q b) _ k) (every_Esc q z h (and_r (q b) _ k))

-- a class that has all of e has all of w
pub every_plain : (q : ℕ → Bool) {e w : Bytes} → Esc e w → every q e ≡ true → every q w ≡ true
unfolding every
every_plain q enil k = refl
every_plain q (ebare {b} c h) k = rw (and_l (q b) _ k) (every_plain q h (and_r (q b) _ k))
every_plain q (eback {b} {e} p h) k =
    rw (and_l (q b) (every q e) (and_r (q 92) _ k)) (every_plain q h (and_r (q b) (every q e) (and_r (q 92) _ k)))

pub null_Esc : {e w : Bytes} → Esc e w → null e ≡ null w
unfolding null
null_Esc enil = refl
null_Esc (ebare c h) = refl
null_Esc (eback p h) = refl

-- ---- the writer's escapes are such

unfoldable quiet : ℕ → Bool
quiet b = plain_byte b && not (isin b (ascii "\\`*_[]<|~"))

quiet_bare : (b : ℕ) → quiet b ≡ true → bare b ≡ true
unfolding quiet bare plain_byte kept white isin every
quiet_bare b h =
    ap not (isin_no quiet b (0 ∷ 9 ∷ 10 ∷ 11 ∷ 12 ∷ 13 ∷ 38 ∷ 42 ∷ 60 ∷ 91 ∷ 92 ∷ 93 ∷ 95 ∷ 96 ∷ 124 ∷ 126 ∷ []) h refl)

unescaped_bare : (start marker underline : Bool) (b : ℕ) (rest : Bytes) → plain_byte b ≡ true
    → is_escaped start marker underline b rest ≡ false → bare b ≡ true
unfolding is_escaped quiet
unescaped_bare start marker underline b rest k h = quiet_bare b (rw (k, or_l (isin b (ascii "\\`*_[]<|~")) _ h))

-- the bytes that are escaped somewhere
unfoldable pub escapable : ℕ → Bool
escapable b = isin b (ascii "\\`*_[]<|~#>-+!.)=")

pub escaped_escapable : (start marker underline : Bool) (b : ℕ) (rest : Bytes) → is_escaped start marker underline b rest ≡ true
    → escapable b ≡ true
unfolding is_escaped escapable every isin
escaped_escapable start marker underline b rest h =
    or_elim (isin b (ascii "\\`*_[]<|~")) _ (λ e. isin_yes escapable b (ascii "\\`*_[]<|~") e refl)
    (or_elim (start && isin b (ascii "#>-+")) _ (λ e. isin_yes escapable b (ascii "#>-+") (and_r start _ e) refl)
    (or_elim (eqb b 33 && starts_with (ascii "[") rest) _ (λ e. eqb_yes escapable b 33 (and_l (eqb b 33) _ e) refl)
    (or_elim (marker && isin b (ascii ".)")) _ (λ e. isin_yes escapable b (ascii ".)") (and_r marker _ e) refl)
    (λ e. eqb_yes escapable b 61 (and_r underline (eqb b 61) (and_r start _ e)) refl)))) h

pub escaped_punctuation : (start marker underline : Bool) (b : ℕ) (rest : Bytes) → is_escaped start marker underline b rest ≡ true
    → punctuation b ≡ true
unfolding escapable punctuation every
escaped_punctuation start marker underline b rest h =
    isin_yes punctuation b (ascii "\\`*_[]<|~#>-+!.)=") (escaped_escapable start marker underline b rest h) refl

from_Esc : (start marker underline : Bool) (w : Bytes) → every plain_byte w ≡ true → Esc (escaped_from start marker underline w) w
unfolding escaped_from every
from_Esc start marker underline [] h = enil
from_Esc start marker underline (b ∷ w) h =
    go (is_escaped start marker underline b w) refl (from_Esc false marker underline w (and_r (plain_byte b) _ h))
  where
    go : (t : Bool) → is_escaped start marker underline b w ≡ t → Esc (escaped_from false marker underline w) w
        → Esc (cond t (ascii "\\") [] ++ (b ∷ escaped_from false marker underline w)) (b ∷ w)
    go true e k = eback (escaped_punctuation start marker underline b w e) k
    go false e k = ebare (unescaped_bare start marker underline b w (and_l (plain_byte b) _ h) e) k

pub chunk_Esc : (start : Bool) (w : Bytes) → every plain_byte w ≡ true → Esc (escaped_chunk w true start) w
unfolding escaped_chunk
chunk_Esc start w h = from_Esc start _ _ w h

blank_Esc : {e w : Bytes} → Esc e w → Esc (32 ∷ e) (32 ∷ w)
unfolding bare isin
blank_Esc h = ebare refl h

pub more_Esc : (ws : List Bytes) → plain_words ws ≡ true → Esc (more_words true ws) (blanked ws)
unfolding more_words blanked plain_words
more_Esc [] h = enil
more_Esc (w ∷ ws) h =
    blank_Esc (Esc_app (chunk_Esc false w (plain_bytes w (and_l (plain_word w) _ h))) (more_Esc ws (and_r (plain_word w) _ h)))

pub phrase_Esc : (w : Bytes) (ws : List Bytes) → plain_words (w ∷ ws) ≡ true → Esc (phrase (w ∷ ws)) (w ++ blanked ws)
unfolding phrase plain_words
phrase_Esc w ws h = Esc_app (chunk_Esc true w (plain_bytes w (and_l (plain_word w) _ h))) (more_Esc ws (and_r (plain_word w) _ h))

-- a word of # alone
hashes_Esc : (w : Bytes) → every hash w ≡ true → Esc w w
unfolding every hash bare isin
hashes_Esc [] e = enil
hashes_Esc (b ∷ w) e = ebare (eqb_yes bare b 35 (and_l (eqb b 35) _ e) refl) (hashes_Esc w (and_r (eqb b 35) _ e))

closing_Esc : (w : Bytes) → every hash w ≡ true → plain_word w ≡ true → Esc (92 ∷ w) w
unfolding every hash plain_word null punctuation
closing_Esc [] e k = absurd (false≢true k)
closing_Esc (b ∷ w) e k = eback (eqb_yes punctuation b 35 (and_l (eqb b 35) _ e) refl) (hashes_Esc w (and_r (eqb b 35) _ e))

pub word_Esc : (t l : Bool) (w : Bytes) → (l && every hash w) ≡ t → plain_word w ≡ true → Esc (heading_word t w) w
unfolding heading_word
word_Esc true l w e k = closing_Esc w (and_r l _ e) k
word_Esc false l w e k = chunk_Esc false w (plain_bytes w k)

pub heading_Esc : (ws : List Bytes) → plain_words ws ≡ true → Esc (heading_words ws) (blanked ws)
unfolding heading_words blanked plain_words
heading_Esc [] h = enil
heading_Esc (w ∷ ws) h =
    blank_Esc
    (Esc_app (word_Esc (null ws && every hash w) (null ws) w refl (and_l (plain_word w) _ h)) (heading_Esc ws (and_r (plain_word w) _ h)))

-- ---- words written and read

-- the words of a paragraph, an item or a cell
pub inline_phrase : (ws : List Bytes) → plain_words ws ≡ true → inline (phrase ws) ≡ map word ws
unfolding phrase words split parts filled null
inline_phrase [] h = inline_Esc enil
inline_phrase (w ∷ ws) h = inline_Esc (phrase_Esc w ws h) ∙ ap (map word) (words_line w ws h)

-- the words of a heading
pub inline_heading : (ws : List Bytes) → plain_words ws ≡ true → inline (heading_words ws) ≡ map word ws
inline_heading ws h = inline_Esc (heading_Esc ws h) ∙ ap (map word) (words_blanked ws h)
