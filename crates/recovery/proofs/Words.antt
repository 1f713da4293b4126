-- Words: those of a plain text, and words put in one line with a blank between them, which part there again.
use Rattle.std.specs.Prelude.{ℕ, ◌≡◌, refl, Bool, true, false, cond, not, ◌&&◌, List, [], ◌∷◌, ◌++◌, eqb}
use Rattle.std.proofs.Common.{sym, ap, append-nil, ne_eqb}
use Rattle.std.proofs.lemmas.Bool.{eqb-false, not-true}
use Rattle.spec.specs.Bytes.{Bytes, null, isin, every, white, cut_at, parts, split, filled, words}
use Rattle.spec.specs.Plain.{without, plain_text}
use Rattle.spec.proofs.Tests.{and_l, and_r, or_l, or_r, every_imp}

-- ---- the words of plain texts

unfoldable pub kept : ℕ → Bool
kept b = not (isin b (0 ∷ 11 ∷ 38 ∷ []))

-- a byte of a plain text's words
unfoldable pub plain_byte : ℕ → Bool
plain_byte b = not (white b) && kept b

unfoldable pub plain_word : Bytes → Bool
plain_word w = not (null w) && every plain_byte w

unfoldable pub plain_words : List Bytes → Bool
plain_words [] = true
plain_words (w ∷ ws) = plain_word w && plain_words ws

pub plain_bytes : (w : Bytes) → plain_word w ≡ true → every plain_byte w ≡ true
unfolding plain_word
plain_bytes w h = and_r (not (null w)) _ h

pub plain_black : (b : ℕ) → plain_byte b ≡ true → white b ≡ false
unfolding plain_byte
plain_black b h = not-true (white b) (and_l (not (white b)) _ h)

-- ---- parts

-- a part stays whole
pub parts_part : (p : ℕ → Bool) (w r : Bytes) → every (λ b. not (p b)) w ≡ true → parts p (w ++ r) ≡ (w ++ (parts p r).0, (parts p r).1)
unfolding every parts cut_at
parts_part p [] r h = refl
parts_part p (b ∷ w) r h = rw (not-true (p b) (and_l (not (p b)) _ h), parts_part p w r (and_r (not (p b)) _ h))

pub parts_word : (w r : Bytes) → every plain_byte w ≡ true → parts white (w ++ r) ≡ (w ++ (parts white r).0, (parts white r).1)
parts_word w r h = parts_part white w r (every_imp plain_byte (λ b. not (white b)) w (λ b e. ap not (plain_black b e)) h)

-- the words with a blank before each
unfoldable pub blanked : List Bytes → Bytes
blanked [] = []
blanked (w ∷ ws) = 32 ∷ (w ++ blanked ws)

parts_blanked : (ws : List Bytes) → plain_words ws ≡ true → parts white (blanked ws) ≡ ([], ws)
unfolding blanked parts plain_words cut_at white isin
parts_blanked [] h = refl
parts_blanked (w ∷ ws) h =
    rw (
      parts_word w (blanked ws) (plain_bytes w (and_l (plain_word w) _ h)),
      parts_blanked ws (and_r (plain_word w) _ h),
      append-nil w,
    )

pub filled_plain : (ws : List Bytes) → plain_words ws ≡ true → filled ws ≡ ws
unfolding filled plain_words plain_word
filled_plain [] h = refl
filled_plain (w ∷ ws) h =
    rw (not-true (null w) (and_l (not (null w)) _ (and_l (plain_word w) _ h)), filled_plain ws (and_r (plain_word w) _ h))

-- words in one line part where they were joined
pub words_line : (w : Bytes) (ws : List Bytes) → plain_words (w ∷ ws) ≡ true → words (w ++ blanked ws) ≡ w ∷ ws
unfolding words split plain_words
words_line w ws h =
    rw (
      parts_word w (blanked ws) (plain_bytes w (and_l (plain_word w) _ h)),
      parts_blanked ws (and_r (plain_word w) _ h),
      append-nil w,
    )
    (filled_plain (w ∷ ws) h)

pub words_blanked : (ws : List Bytes) → plain_words ws ≡ true → words (blanked ws) ≡ ws
unfolding words split filled null
words_blanked ws h = rw (parts_blanked ws h) (filled_plain ws h)

-- ---- a plain text's words are such words

unfoldable pub all_of : (ℕ → Bool) → List Bytes → Bool
all_of q [] = true
all_of q (w ∷ ws) = every q w && all_of q ws

Parted : (ℕ → Bool) → Bytes × List Bytes → Type 0
Parted q r = (every q r.0 ≡ true) × (all_of q r.1 ≡ true)

cut_all : (q : ℕ → Bool) (t : Bool) (b : ℕ) (r : Bytes × List Bytes) → (t ≡ false → q b ≡ true) → Parted q r → Parted q (cut_at t b r)
unfolding cut_at every all_of Parted
cut_all q true b r k h = (refl, rw h.0 h.1)
cut_all q false b r k h = (rw (k refl) h.0, h.1)

-- the words of a text over p are over q, which has every byte of p that is not white
parts_all : (p q : ℕ → Bool) → ((b : ℕ) → white b ≡ false → p b ≡ true → q b ≡ true)
    → (s : Bytes) → every p s ≡ true → Parted q (parts white s)
unfolding parts every Parted
parts_all p q f [] h = (refl, unfold all_of in refl)
parts_all p q f (b ∷ s) h =
    cut_all q (white b) b (parts white s) (λ e. f b e (and_l (p b) _ h)) (parts_all p q f s (and_r (p b) _ h))

filled_of : (q : ℕ → Bool) (ws : List Bytes) → all_of q ws ≡ true → all_of q (filled ws) ≡ true
unfolding all_of filled
filled_of q [] h = refl
filled_of q (w ∷ ws) h = go (null w) (filled_of q ws (and_r (every q w) _ h))
  where
    go : (t : Bool) → all_of q (filled ws) ≡ true → all_of q (cond t (filled ws) (w ∷ filled ws)) ≡ true
    go true ih = ih
    go false ih = rw (and_l (every q w) _ h) ih

pub words_all : (p q : ℕ → Bool) → ((b : ℕ) → white b ≡ false → p b ≡ true → q b ≡ true)
    → (s : Bytes) → every p s ≡ true → all_of q (words s) ≡ true
unfolding words split Parted
words_all p q f s h = filled_of q _ (unfold all_of in rw (parts_all p q f s h).0 (parts_all p q f s h).1)

plain_word_lem : (w : Bytes) → null w ≡ false → every plain_byte w ≡ true → plain_word w ≡ true
unfolding plain_word
plain_word_lem w e h = rw (e, h)

filled_plainly : (ws : List Bytes) → all_of plain_byte ws ≡ true → plain_words (filled ws) ≡ true
unfolding all_of filled plain_words
filled_plainly [] h = refl
filled_plainly (w ∷ ws) h = go (null w) refl (filled_plainly ws (and_r (every plain_byte w) _ h))
  where
    go : (t : Bool) → null w ≡ t → plain_words (filled ws) ≡ true → plain_words (cond t (filled ws) (w ∷ filled ws)) ≡ true
    go true e ih = ih
    go false e ih = rw (plain_word_lem w e (and_l (every plain_byte w) _ h)) ih

pub absent : (x : ℕ) (s : Bytes) → isin x s ≡ false → every (λ b. not (eqb b x)) s ≡ true
unfolding isin every
absent x [] h = refl
absent x (b ∷ s) h =
    rw (ne_eqb b x (λ e. eqb-false x b (or_l (eqb x b) _ h) (sym e))) (absent x s (or_r (eqb x b) _ h))

kept_all : (s : Bytes) → every (λ b. not (eqb b 0)) s ≡ true → every (λ b. not (eqb b 11)) s ≡ true
    → every (λ b. not (eqb b 38)) s ≡ true → every kept s ≡ true
unfolding every kept isin
kept_all [] f g h = refl
kept_all (b ∷ s) f g h =
    rw (
      not-true (eqb b 0) (and_l (not (eqb b 0)) _ f),
      not-true (eqb b 11) (and_l (not (eqb b 11)) _ g),
      not-true (eqb b 38) (and_l (not (eqb b 38)) _ h),
    )
    (kept_all s (and_r (not (eqb b 0)) _ f) (and_r (not (eqb b 11)) _ g) (and_r (not (eqb b 38)) _ h))

without_kept : (s : Bytes) → without (0 ∷ 11 ∷ 38 ∷ []) s ≡ true → every kept s ≡ true
unfolding without
without_kept s h =
    let more : (not (isin 11 s) && (not (isin 38 s) && true)) ≡ true = and_r (not (isin 0 s)) _ h in
    let last : (not (isin 38 s) && true) ≡ true = and_r (not (isin 11 s)) _ more in
    kept_all s (absent 0 s (not-true _ (and_l (not (isin 0 s)) _ h))) (absent 11 s (not-true _ (and_l (not (isin 11 s)) _ more)))
    (absent 38 s (not-true _ (and_l (not (isin 38 s)) true last)))

kept_plain : (b : ℕ) → white b ≡ false → kept b ≡ true → plain_byte b ≡ true
unfolding plain_byte
kept_plain b e k = rw (e, k)

pub words_plain : (s : Bytes) → every kept s ≡ true → plain_words (words s) ≡ true
unfolding words split Parted
words_plain s h =
    filled_plainly _ (unfold all_of in rw (parts_all kept plain_byte kept_plain s h).0 (parts_all kept plain_byte kept_plain s h).1)

-- what is known of a plain text: its bytes, its words, and that it has some
pub text_kept : (s : Bytes) → plain_text s ≡ true → every kept s ≡ true
unfolding plain_text
text_kept s h = without_kept s (and_r (not (null (words s))) _ (and_l (not (null (words s)) && without (0 ∷ 11 ∷ 38 ∷ []) s) _ h))

pub text_words : (s : Bytes) → plain_text s ≡ true → plain_words (words s) ≡ true
text_words s h = words_plain s (text_kept s h)

pub text_some : (s : Bytes) → plain_text s ≡ true → null (words s) ≡ false
unfolding plain_text
text_some s h =
    not-true (null (words s))
    (and_l (not (null (words s))) _ (and_l (not (null (words s)) && without (0 ∷ 11 ∷ 38 ∷ []) s) _ h))
