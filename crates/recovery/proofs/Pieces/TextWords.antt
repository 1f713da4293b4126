-- A line of several texts is, for a reader, their words and nothing else.
use Rattle.std.specs.Prelude.{◌≡◌, refl, Bool, true, false, cond, not, ◌&&◌, ◌||◌, List, [], ◌∷◌, ◌++◌, map}
use Rattle.std.proofs.Common.{sym, ◌∙◌, append-nil, append_assoc}
use Rattle.std.proofs.lemmas.Bool.{false≢true}
use Rattle.spec.specs.Bytes.{Bytes, ascii, null, same, isin, every, ends_with, is_blank, words}
use Rattle.spec.specs.Entries.{word}
use Rattle.spec.specs.Md.TextUtils.{ends_with_marker_digits, escaped_chunk, ends_with_white, starts_with_white, more_words, normalized_words, normalized, push_normalized_text}
use Rattle.spec.specs.Md.MDSerializer.{Ancestors, MDSerializer}
use Rattle.spec.specs.Md.Serializer.{write_nodes}
use Rattle.spec.specs.Out.{keep, push, and_then}
use Rattle.spec.specs.Reading.Inline.{inline}
use Rattle.spec.specs.Reading.Lines.{punctuation}
use Rattle.spec.specs.Tree.{Forest, nothing, text, comment, element}
use Rattle.spec.specs.declared.ctx.FormatOpts.{FormatOpts}
use Rattle.spec.proofs.Tests.{and_l, and_r, or_elim, same_eq}
use Rattle.recovery.proofs.Escapes.{bare, Esc, enil, ebare, eback, Esc_app, chunk_Esc, more_Esc, inline_Esc}
use Rattle.recovery.proofs.Words.{all_of, kept, plain_byte, plain_word, plain_words, plain_bytes, words_plain, blanked}
use Rattle.recovery.proofs.Pieces.Escapes.{dot_chunk}
use Rattle.recovery.proofs.Pieces.Texts.{appended}

-- what a text adds behind t, before it is escaped: its words with a blank between them, and a blank for the white bytes at an end; none where
-- a blank or nothing stands before it
unfoldable pub said_words : FormatOpts → Bytes → Bytes → List Bytes → Bytes
said_words opts t s [] = []
said_words opts t s (w ∷ ws) =
    cond ((opts.inline || not ((ends_with (ascii "\n") t || ends_with (ascii " ") t) || null t)) && starts_with_white s) (ascii " ") []
    ++ (w ++ (blanked ws ++ cond (ends_with_white s) (ascii " ") []))

unfoldable pub said_text : FormatOpts → Bytes → Bytes → Bytes
said_text opts t s =
    cond (not (ends_with (ascii "\n") t || ends_with (ascii " ") t) && (not (null s) && is_blank s)) (ascii " ") (said_words opts t s (words s))

unfoldable pub said : FormatOpts → Bytes → List Bytes → Bytes
said opts t [] = []
said opts t (s ∷ ss) = said_text opts t s ++ said opts (t ++ normalized opts t s) ss

blank_Esc : (t : Bool) → Esc (cond t (ascii " ") []) (cond t (ascii " ") [])
unfolding bare isin
blank_Esc true = ebare refl enil
blank_Esc false = enil

-- the first word, with its backslash if it is a dot behind digits
first_Esc : (start marked : Bool) (w : Bytes) → every plain_byte w ≡ true → (d : Bool) → (same w (ascii ".") || same w (ascii ")")) ≡ d
    → Esc (cond (d && marked) (ascii "\\") [] ++ escaped_chunk w true start) w
unfolding punctuation
first_Esc start true w h true d =
    rw (dot_chunk w start d)
    (or_elim (same w (ascii ".")) _ (λ e. rw (same_eq w (ascii ".") e) (eback refl enil))
    (λ e. rw (same_eq w (ascii ")") e) (eback refl enil)) d)
first_Esc start false w h true d = chunk_Esc start w h
first_Esc start marked w h false d = chunk_Esc start w h

lead_Esc : (white start marked : Bool) (w : Bytes) → every plain_byte w ≡ true
    → Esc (cond white (ascii " ") (cond ((same w (ascii ".") || same w (ascii ")")) && marked) (ascii "\\") []) ++ escaped_chunk w true start)
    (cond white (ascii " ") [] ++ w)
unfolding bare isin
lead_Esc true start marked w h = ebare refl (chunk_Esc start w h)
lead_Esc false start marked w h = first_Esc start marked w h (same w (ascii ".") || same w (ascii ")")) refl

words_Esc : (opts : FormatOpts) (t s : Bytes) (ws : List Bytes) → opts.skip_escape ≡ false → plain_words ws ≡ true
    → Esc (normalized_words opts t s ws) (said_words opts t s ws)
unfolding normalized_words said_words plain_words
words_Esc opts t s [] e k = enil
words_Esc opts t s (w ∷ ws) e k =
    let white : Bool = (opts.inline || not ((ends_with (ascii "\n") t || ends_with (ascii " ") t) || null t)) && starts_with_white s in
    let start : Bool = (null t || ends_with (ascii "\n") t) || opts.list_item in
    let d : Bool = same w (ascii ".") || same w (ascii ")") in
    let lead : Bytes = cond white (ascii " ") (cond (d && ends_with_marker_digits t) (ascii "\\") []) in
    let end : Bytes = cond (ends_with_white s) (ascii " ") [] in
    rw (
      e,
      ← append_assoc lead (escaped_chunk w true start) (more_words true ws ++ end),
      ← append_assoc (cond white (ascii " ") []) w (blanked ws ++ end),
    )
    (Esc_app (lead_Esc white start (ends_with_marker_digits t) w (plain_bytes w (and_l (plain_word w) _ k)))
    (Esc_app (more_Esc ws (and_r (plain_word w) _ k)) (blank_Esc (ends_with_white s))))

text_Esc : (opts : FormatOpts) (t s : Bytes) → opts.skip_escape ≡ false → every kept s ≡ true → Esc (normalized opts t s) (said_text opts t s)
unfolding normalized said_text
text_Esc opts t s e k = go (not (ends_with (ascii "\n") t || ends_with (ascii " ") t) && (not (null s) && is_blank s))
  where
    go : (b : Bool) → Esc (cond b (ascii " ") (normalized_words opts t s (words s))) (cond b (ascii " ") (said_words opts t s (words s)))
    go true = blank_Esc true
    go false = words_Esc opts t s (words s) e (words_plain s k)

pub texts_Esc : (opts : FormatOpts) (t : Bytes) (ss : List Bytes) → opts.skip_escape ≡ false → all_of kept ss ≡ true
    → Esc (appended opts t ss) (said opts t ss)
unfolding appended said all_of
texts_Esc opts t [] e k = enil
texts_Esc opts t (s ∷ ss) e k =
    Esc_app (text_Esc opts t s e (and_l (every kept s) _ k)) (texts_Esc opts (t ++ normalized opts t s) ss e (and_r (every kept s) _ k))

-- 6: nothing in the line is read as anything but text, and it reads as the words of the texts, for all texts without NUL, VT and `&`
pub texts_read : (opts : FormatOpts) (t : Bytes) (ss : List Bytes) → opts.skip_escape ≡ false → all_of kept ss ≡ true
    → inline (appended opts t ss) ≡ map word (words (said opts t ss))
texts_read opts t ss e k = inline_Esc (texts_Esc opts t ss e k)

-- ---- what the writer appends

-- the texts of a forest that holds nothing else but comments
unfoldable pub only_texts : Forest → Bool
only_texts nothing = true
only_texts (text s rest) = only_texts rest
only_texts (comment s rest) = only_texts rest
only_texts (element name attrs kids rest) = false

unfoldable pub texts_of : Forest → List Bytes
texts_of nothing = []
texts_of (text s rest) = s ∷ texts_of rest
texts_of (comment s rest) = texts_of rest
texts_of (element name attrs kids rest) = texts_of rest

pub texts_written : (self : MDSerializer) (anc : Ancestors) (opts : FormatOpts) (f : Forest) (t : Bytes) → only_texts f ≡ true
    → (write_nodes self anc opts f t).text ≡ t ++ appended opts t (texts_of f)
unfolding write_nodes only_texts texts_of appended and_then keep push push_normalized_text
texts_written self anc opts nothing t h = sym (append-nil t)
texts_written self anc opts (text s rest) t h =
    texts_written self anc opts rest (t ++ normalized opts t s) h
    ∙ append_assoc t (normalized opts t s) (appended opts (t ++ normalized opts t s) (texts_of rest))
texts_written self anc opts (comment s rest) t h = texts_written self anc opts rest t h
texts_written self anc opts (element name attrs kids rest) t h = absurd (false≢true h)
