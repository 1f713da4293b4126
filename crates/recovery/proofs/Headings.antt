-- Headings: the line of a heading reads as a heading of its level, and no word of it is taken for a closing sequence.
use Rattle.std.specs.Prelude.{ℕ, zero, suc, ◌<◌, ◌≡◌, refl, Bool, true, false, cond, not, ◌&&◌, List, [], ◌∷◌, ◌++◌, eqb, replicate}
use Rattle.std.proofs.Common.{ap, ◌∙◌, true≢false, le-leb}
use Rattle.std.proofs.lemmas.Bool.{false≢true, not-true}
use Rattle.std.proofs.Math.Bool.{and-true}
use Rattle.spec.specs.Bytes.{Bytes, null, isin, every, white}
use Rattle.spec.specs.Reading.Lines.{space_or_tab, blank_line, run, drop_run}
use Rattle.spec.specs.Reading.Starts.{heading_start, closing_sequence, without_closing, ends, atx_heading_by, atx_heading, lead, start_by, start}
use Rattle.spec.proofs.Tests.{and_l, and_r, apart, every_imp}
use Rattle.recovery.proofs.Words.{plain_byte, plain_word, plain_words, plain_bytes}
use Rattle.recovery.proofs.Escapes.{every_Esc, every_plain, null_Esc, word_Esc}
use Rattle.recovery.specs.Closed.{hash, heading_word, heading_words, heading_line}

-- ---- a word of a heading

unfoldable dense : ℕ → Bool
dense b = not (space_or_tab b)

plain_dense : (b : ℕ) → plain_byte b ≡ true → dense b ≡ true
unfolding plain_byte white isin dense space_or_tab
plain_dense b h = rw (apart plain_byte b 32 h refl, apart plain_byte b 9 h refl)

-- it is written without blanks, and something of it is written
word_dense : (t l : Bool) (w : Bytes) → (l && every hash w) ≡ t → plain_word w ≡ true → every dense (heading_word t w) ≡ true
word_dense t l w e h =
    every_Esc dense (unfold dense space_or_tab in refl) (word_Esc t l w e h) (every_imp plain_byte dense w plain_dense (plain_bytes w h))

word_some : (t l : Bool) (w : Bytes) → (l && every hash w) ≡ t → plain_word w ≡ true → null (heading_word t w) ≡ false
unfolding plain_word
word_some t l w e h = null_Esc (word_Esc t l w e h) ∙ not-true (null w) (and_l (not (null w)) _ h)

-- ---- runs of #

drop_hashes : (e t : Bytes) → every hash e ≡ true → drop_run 35 (e ++ t) ≡ drop_run 35 t
unfolding every hash drop_run
drop_hashes [] t h = refl
drop_hashes (b ∷ e) t h = rw (and_l (eqb b 35) _ h) (drop_hashes e t (and_r (eqb b 35) _ h))

drop_dense : (e t : Bytes) → every dense e ≡ true → every hash e ≡ false → blank_line (drop_run 35 (e ++ t)) ≡ false
unfolding every hash drop_run blank_line dense
drop_dense [] t d h = absurd (true≢false h)
drop_dense (b ∷ e) t d h = go (eqb b 35) refl h (drop_dense e t (and_r (dense b) _ d))
  where
    go : (s : Bool) → eqb b 35 ≡ s → (s && every hash e) ≡ false → (every hash e ≡ false → blank_line (drop_run 35 (e ++ t)) ≡ false)
        → blank_line (cond s (drop_run 35 (e ++ t)) (b ∷ (e ++ t))) ≡ false
    go true q h ih = ih h
    go false q h ih = rw (not-true (space_or_tab b) (and_l (not (space_or_tab b)) _ d))

dense_blank : (e t : Bytes) → every dense e ≡ true → null e ≡ false → blank_line (e ++ t) ≡ false
unfolding every blank_line null dense
dense_blank [] t d h = absurd (true≢false h)
dense_blank (b ∷ e) t d h = rw (not-true (space_or_tab b) (and_l (not (space_or_tab b)) _ d))

-- words behind a run of # keep it from closing the heading
words_blank : (ws : List Bytes) → plain_words ws ≡ true → null ws ≡ false → blank_line (drop_run 35 (heading_words ws)) ≡ false
unfolding heading_words plain_words null drop_run blank_line every space_or_tab
words_blank [] h n = absurd (true≢false n)
words_blank (w ∷ ws) h n =
    let k : plain_word w ≡ true = and_l (plain_word w) _ h in
    dense_blank (heading_word (null ws && every hash w) w) (heading_words ws) (word_dense _ (null ws) w refl k) (word_some _ (null ws) w refl k)

-- a word that is written as # alone is not the last
hashes_more : (t : Bool) (w : Bytes) (ws : List Bytes) → (null ws && every hash w) ≡ t → plain_word w ≡ true
    → every hash (heading_word t w) ≡ true → null ws ≡ false
unfolding heading_word
hashes_more true w ws e h q = unfold every hash in absurd (false≢true q)
hashes_more false w ws e h q = rw (every_plain hash (word_Esc false (null ws) w e h) q, and-true (null ws)) at e

-- no blank of a heading is followed by a closing sequence
word_closing : (t : Bool) (w : Bytes) (ws : List Bytes) → (null ws && every hash w) ≡ t → plain_word w ≡ true → plain_words ws ≡ true
    → closing_sequence (heading_word t w ++ heading_words ws) ≡ false
unfolding closing_sequence
word_closing t w ws e h k = go (every hash (heading_word t w)) refl
  where
    go : (s : Bool) → every hash (heading_word t w) ≡ s → blank_line (drop_run 35 (heading_word t w ++ heading_words ws)) ≡ false
    go false q = drop_dense (heading_word t w) (heading_words ws) (word_dense t (null ws) w e h) q
    go true q = rw (drop_hashes (heading_word t w) (heading_words ws) q) (words_blank ws k (hashes_more t w ws e h q))

keep_dense : (e t : Bytes) → every dense e ≡ true → without_closing (e ++ t) ≡ e ++ without_closing t
unfolding every without_closing dense
keep_dense [] t d = refl
keep_dense (b ∷ e) t d =
    rw (not-true (space_or_tab b) (and_l (not (space_or_tab b)) _ d)) (ap (λ (r : Bytes). b ∷ r) (keep_dense e t (and_r (dense b) _ d)))

-- nothing of a heading's words is taken for its closing sequence
pub heading_kept : (ws : List Bytes) → plain_words ws ≡ true → without_closing (heading_words ws) ≡ heading_words ws
unfolding heading_words plain_words without_closing space_or_tab
heading_kept [] h = refl
heading_kept (w ∷ ws) h =
    let k : plain_word w ≡ true = and_l (plain_word w) _ h in
    let t : Bool = null ws && every hash w in
    rw (
      word_closing t w ws refl k (and_r (plain_word w) _ h),
      keep_dense (heading_word t w) (heading_words ws) (word_dense t (null ws) w refl k),
      heading_kept ws (and_r (plain_word w) _ h),
    )

-- ---- the line

run_words : (n : ℕ) (ws : List Bytes) → run 35 (replicate n 35 ++ heading_words ws) ≡ n
unfolding run heading_words
run_words zero [] = refl
run_words zero (w ∷ ws) = refl
run_words (suc n) ws = ap suc (run_words n ws)

drop_words : (n : ℕ) (ws : List Bytes) → drop_run 35 (replicate n 35 ++ heading_words ws) ≡ heading_words ws
unfolding drop_run heading_words
drop_words zero [] = refl
drop_words zero (w ∷ ws) = refl
drop_words (suc n) ws = drop_words n ws

ends_words : (ws : List Bytes) → ends (heading_words ws) ≡ true
unfolding ends heading_words space_or_tab
ends_words [] = refl
ends_words (w ∷ ws) = refl

pub start_heading : (level : ℕ) (ws : List Bytes) → level < 6 → plain_words ws ≡ true
    → start (heading_line (suc level) ws) ≡ heading_start (suc level) (heading_words ws)
unfolding heading_line start start_by lead atx_heading atx_heading_by
start_heading level ws l h =
    rw (run_words level ws, drop_words level ws, ends_words ws, le-leb (suc level) 6 l, heading_kept ws h)
