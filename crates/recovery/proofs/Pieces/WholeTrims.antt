-- The trim of the whole text: when the blank behind the marks of a heading or of an item stands.
use Rattle.std.specs.Prelude.{ℕ, suc, ◌<◌, ◌≡◌, Bool, true, cond, ◌&&◌, ◌||◌, replicate}
use Rattle.std.proofs.Common.{arith, sym, ap, ◌∙◌, true≢false}
use Rattle.std.proofs.Math.Path.{refl}
use Rattle.std.proofs.Math.Bool.{false, not, and-false}
use Rattle.std.proofs.lemmas.Bool.{false≢true}
use mathlib.Core.List.{List, [], ◌∷◌, ◌++◌, append_assoc}
use borrow.Author.Tests.{not-true}
use Rattle.spec.specs.Bytes.{Bytes, ascii, null, same, isin, every, ends_with, white, one, trim_end_matches, trim_ascii_end, trim_ascii_start, is_blank, split, filled, words, trim_end}
use Rattle.spec.specs.Everything.{everything}
use Rattle.spec.specs.Out.{cut}
use Rattle.spec.specs.Tree.{nothing, text, element}
use Rattle.spec.specs.Md.Ctx.{prefix}
use Rattle.spec.specs.Md.Heading.{escape_closing_hashes}
use Rattle.spec.specs.Md.TextUtils.{is_escaped, escaped_from, escaped_chunk, ends_with_white, starts_with_white, more_words, normalized_words, normalized, ends_with_marker_digits, trim_space}
use Rattle.spec.specs.Pieces.Lines.{is_text_start}
use Rattle.spec.specs.Reading.Starts.{item_start, thematic_break, start, start_in}
use Rattle.spec.specs.declared.ctx.FormatOpts.{FormatOpts}
use Rattle.spec.specs.declared.ctx.ListContext.{ListContext}
use Rattle.spec.proofs.Tests.{and_l, and_no, every_byte, every_front}
use Rattle.recovery.proofs.Markers.{marker_width}
use Rattle.recovery.proofs.Words.{all_of, words_all}
use Rattle.recovery.proofs.Written.Normalized.{white_words}
use Rattle.recovery.proofs.Written.Ends.{last_is, first_is, first_app, trim_cut, start_cut}
use Rattle.recovery.proofs.Pieces.Closing.{closes_by}
use Rattle.recovery.proofs.Pieces.Headings.{ReadHeading, heading_recovered}
use Rattle.recovery.proofs.Pieces.Marks.{small_kind, number_in, marker_read}
use Rattle.recovery.proofs.Pieces.Trims.{Tail, tail_of, trim_some}
use Rattle.recovery.proofs.Pieces.ItemExamples.{written_of, bullet_item}

-- ---- what the trim leaves

-- something is left of a text that is not all white
left_some : (c : Bytes) → is_blank c ≡ false → null (trim_end_matches (one white) c) ≡ false
unfolding is_blank
left_some c h = go (trim_end_matches (one white) c) (tail_of white c)
  where
    go : (r : Bytes) → Tail white c r → null r ≡ false
    go [] t = absurd (true≢false (sym (rw t.is t.all) ∙ h))
    go (b ∷ r) t = unfold null in refl

-- Behind y, which begins with a byte that is not white, a text that is not all white: the trim takes the white bytes at the end of that
-- text and nothing else. So the blank stands that ends y, as behind the marks of a heading or of an item
pub blank_stands : (y c : Bytes) → first_is white y ≡ false → is_blank c ≡ false → (trim_space (y ++ c)).text ≡ y ++ trim_ascii_end c
unfolding trim_space cut trim_ascii_end trim_ascii_start
blank_stands y c f h =
    rw (trim_some white y c (left_some c h))
    (start_cut white [] (y ++ trim_end_matches (one white) c) (unfold every in refl) (first_app white y (trim_end_matches (one white) c) f))

-- A text that is all white: the trim takes the blank, too, and what is written next stands straight behind y
pub blank_goes : (y c : Bytes) → first_is white y ≡ false → last_is white y ≡ false → is_blank c ≡ true → (trim_space (y ++ (32 ∷ c))).text ≡ y
unfolding trim_space cut trim_ascii_end trim_ascii_start is_blank
blank_goes y c f l h =
    rw (trim_cut white y (32 ∷ c) l (unfold every white isin in h)) (start_cut white [] y (unfold every in refl) f)

-- ---- headings and items

-- a heading with some content behind its blank when the whole text is trimmed: it is read as without the trim, but for white bytes at its end
pub heading_trimmed : (x c : Bytes) (l : ℕ) → l < 6 → (null x || not (first_is white x)) ≡ true → is_blank c ≡ false
    → null (trim_end (trim_ascii_end c)) ≡ false → closes_by 9 (trim_ascii_end c) ≡ false
    → ReadHeading (suc l) (escape_closing_hashes (trim_space (x ++ (replicate (suc l) 35 ++ (32 ∷ c)))).text).text x (trim_ascii_end c)
heading_trimmed x c l k f h n t =
    rw (is x f) (heading_recovered x (trim_ascii_end c) l k (rw n) t)
  where
    y : Bytes → Bytes
    y x = x ++ (replicate (suc l) 35 ++ (32 ∷ []))

    first : (x : Bytes) → (null x || not (first_is white x)) ≡ true → first_is white (y x) ≡ false
    first [] e = unfold first_is white isin in refl
    first (b ∷ x) e = unfold first_is in not-true (white b) (unfold null first_is in e)

    is : (x : Bytes) → (null x || not (first_is white x)) ≡ true
        → (trim_space (x ++ (replicate (suc l) 35 ++ (32 ∷ c)))).text ≡ x ++ (replicate (suc l) 35 ++ (32 ∷ trim_ascii_end c))
    is x e = ap (λ (u : Bytes). (trim_space u).text) (seam c) ∙ (blank_stands (y x) c (first x e) h ∙ sym (seam (trim_ascii_end c)))
      where
        seam : (r : Bytes) → x ++ (replicate (suc l) 35 ++ (32 ∷ r)) ≡ y x ++ r
        seam r = sym (append_assoc x (replicate (suc l) 35 ++ (32 ∷ [])) r ∙ ap (λ (u : Bytes). x ++ u) (append_assoc (replicate (suc l) 35) (32 ∷ []) r))

-- an item with some content behind its marker
pub marker_trimmed : (ctx : ListContext) (x c : Bytes) → first_is white (x ++ prefix ctx) ≡ false → is_blank c ≡ false → small_kind ctx.kind ≡ true
    → thematic_break 45 1 (32 ∷ trim_ascii_end c) ≡ false
    → ((trim_space (x ++ (prefix ctx ++ c))).text ≡ x ++ (prefix ctx ++ trim_ascii_end c))
    × (start (prefix ctx ++ trim_ascii_end c) ≡ item_start (number_in ctx.kind) (marker_width (number_in ctx.kind)) (32 ∷ trim_ascii_end c))
marker_trimmed ctx x c f h s t = (
  ap (λ (u : Bytes). (trim_space u).text) (sym (append_assoc x (prefix ctx) c))
      ∙ (blank_stands (x ++ prefix ctx) c f h ∙ append_assoc x (prefix ctx) (trim_ascii_end c)),
  marker_read ctx (trim_ascii_end c) s t,
)

-- ---- a text with a word is such content

-- the parts that are kept have bytes
filled_some : (xs : List Bytes) (w : Bytes) (ws : List Bytes) → filled xs ≡ w ∷ ws → null w ≡ false
unfolding filled
filled_some [] w ws e = let z : ◌≡◌ {A = ℕ} 0 1 = cc in absurd (omega arith)
filled_some (x ∷ xs) w ws e = go (null x) refl e (filled_some xs w ws)
  where
    go : (t : Bool) → null x ≡ t → cond t (filled xs) (x ∷ filled xs) ≡ w ∷ ws → (filled xs ≡ w ∷ ws → null w ≡ false) → null w ≡ false
    go true n q ih = ih q
    go false n q ih = let is : x ≡ w = cc in rw (← is) n

every_behind : (q : ℕ → Bool) (x y : Bytes) → every q y ≡ false → every q (x ++ y) ≡ false
unfolding every
every_behind q [] y h = h
every_behind q (b ∷ x) y h = and_no (q b) (every q (x ++ y)) (every_behind q x y h)

from_black : (begins m u : Bool) (b : ℕ) (w : Bytes) → white b ≡ false → every white (escaped_from begins m u (b ∷ w)) ≡ false
unfolding escaped_from
from_black begins m u b w h = go (is_escaped begins m u b w)
  where
    go : (t : Bool) → every white (cond t (ascii "\\") [] ++ (b ∷ escaped_from false m u w)) ≡ false
    go true = unfold every white isin in refl
    go false = unfold every in rw h

-- no white byte, and some byte
unfoldable solid_word : Bytes → Bool
solid_word w = not (null w) && every (λ b. not (white b)) w

chunk_black : (escape begins : Bool) (w : Bytes) → solid_word w ≡ true → every white (escaped_chunk w escape begins) ≡ false
unfolding solid_word null every
chunk_black escape begins [] h = absurd (false≢true h)
chunk_black escape begins (b ∷ w) h = go escape (not-true (white b) (and_l (not (white b)) _ h))
  where
    go : (escape : Bool) → white b ≡ false → every white (escaped_chunk (b ∷ w) escape begins) ≡ false
    go true e = unfold escaped_chunk in from_black begins _ _ b w e
    go false e = unfold escaped_chunk every in rw e

-- the first word of a text
first_solid : (s w : Bytes) (ws : List Bytes) → words s ≡ w ∷ ws → solid_word w ≡ true
first_solid s w ws e = go (null w) refl
  where
    all : all_of (λ b. not (white b)) (w ∷ ws) ≡ true
    all = rw e at (words_all (λ b. true) (λ b. not (white b)) (λ b q t. ap not q) s (every_byte s))

    go : (t : Bool) → null w ≡ t → solid_word w ≡ true
    go true n = absurd (true≢false (sym n ∙ filled_some (split white s) w ws (unfold words in e)))
    go false n = unfold solid_word in rw n (unfold all_of in and_l (every (λ b. not (white b)) w) _ all)

words_black : (opts : FormatOpts) (t s w : Bytes) (ws : List Bytes) → solid_word w ≡ true → every white (normalized_words opts t s (w ∷ ws)) ≡ false
unfolding normalized_words
words_black opts t s w ws h =
    let begins : Bool = (null t || ends_with (ascii "\n") t) || opts.list_item in
    let escape : Bool = not opts.skip_escape in
    let dot : Bool = same w (ascii ".") || same w (ascii ")") in
    let blank : Bool = (opts.inline || not ((ends_with (ascii "\n") t || ends_with (ascii " ") t) || null t)) && starts_with_white s in
    let lead : Bytes = cond blank (ascii " ") (cond (escape && (dot && ends_with_marker_digits t)) (ascii "\\") []) in
    let end : Bytes = more_words escape ws ++ cond (ends_with_white s) (ascii " ") [] in
    every_behind white lead (escaped_chunk w escape begins ++ end) (every_front white (escaped_chunk w escape begins) end (chunk_black escape begins w h))

-- what is appended for a text with a word is not all white, so that the blank before it stands in every trim behind it
pub text_stands : (opts : FormatOpts) (t s w : Bytes) (ws : List Bytes) → words s ≡ w ∷ ws → is_blank (normalized opts t s) ≡ false
unfolding normalized is_blank
text_stands opts t s w ws e =
    rw (black (every white s) refl, and-false (not (null s)), and-false (not (ends_with (ascii "\n") t || ends_with (ascii " ") t)), e)
    (words_black opts t s w ws (first_solid s w ws e))
  where
    black : (b : Bool) → every white s ≡ b → b ≡ false
    black true q = let z : ◌≡◌ {A = List Bytes} [] (w ∷ ws) = sym (white_words s q) ∙ e in let y : ◌≡◌ {A = ℕ} 0 1 = cc in absurd (omega arith)
    black false q = refl

-- ---- exceptions

-- an `a` without `href` and without text trims the whole text, and what follows stands straight behind the marks: no heading
pub heading_lost : written_of (element (ascii "h2") [] (element (ascii "a") [] nothing (text (ascii "x") nothing)) nothing) ≡ ascii "##x"
unfolding everything written_of
heading_lost = refl

-- and no item
pub item_lost : written_of (bullet_item (element (ascii "a") [] nothing (text (ascii "x") nothing))) ≡ ascii "-x"
unfolding everything written_of bullet_item
item_lost = refl

pub marks_text : (is_text_start (start_in false (ascii "##x")) ≡ true) × (is_text_start (start_in false (ascii "-x")) ≡ true)
unfolding everything
marks_text = (refl, refl)
