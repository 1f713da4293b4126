-- The phrases of what is read: words between white bytes, and words that are wrapped.
use Rattle.std.specs.Prelude.{◌≡◌, Bool, true, cond, List, [], ◌∷◌, ◌++◌}
use Rattle.std.proofs.Math.Path.{refl}
use Rattle.std.proofs.Common.{ap, ◌∙◌, append-nil, append_assoc}
use Rattle.std.proofs.Math.Bool.{false}
use Rattle.std.proofs.Math.Option.{some}
use Rattle.spec.specs.Bytes.{Bytes, null, every, white, cut_at, parts, split, filled, words}
use Rattle.spec.specs.Pieces.EmphasisReading.{Inlines, joined, bytes, Phrase, plain_words, emphasised, strongly, after, bytes_of, between, emphasis_then, phrases}
use Rattle.spec.proofs.Tests.{and_l, and_r}
use Rattle.recovery.proofs.Words as plain
use Rattle.recovery.proofs.Words.{words_line}
use Rattle.recovery.proofs.Written.Normalized.{white_parts, white_words}
use Rattle.recovery.proofs.Pieces.EmphasisTokens.{wrap}
use Rattle.recovery.proofs.Pieces.EmphasisSheets.{in_line}

-- ---- words and white bytes

-- white bytes before and behind a text add no word
pub words_before : (z s : Bytes) → every white z ≡ true → words (z ++ s) ≡ words s
unfolding every words split parts cut_at filled null
words_before [] s h = refl
words_before (b ∷ z) s h = rw (and_l (white b) _ h) (words_before z s (and_r (white b) _ h))

parts_behind : (s z : Bytes) → every white z ≡ true → ((parts white (s ++ z)).0 ≡ (parts white s).0) × (filled (parts white (s ++ z)).1 ≡ filled (parts white s).1)
unfolding parts cut_at filled null
parts_behind [] z h = white_parts z h
parts_behind (b ∷ s) z h = go (white b) (parts_behind s z h)
  where
    go : (t : Bool) → ((parts white (s ++ z)).0 ≡ (parts white s).0) × (filled (parts white (s ++ z)).1 ≡ filled (parts white s).1)
        → ((cut_at t b (parts white (s ++ z))).0 ≡ (cut_at t b (parts white s)).0) × (filled (cut_at t b (parts white (s ++ z))).1 ≡ filled (cut_at t b (parts white s)).1)
    go true q = (refl, unfold cut_at filled in rw (q.0, q.1))
    go false q = (unfold cut_at in rw q.0, unfold cut_at in q.1)

pub words_behind : (s z : Bytes) → every white z ≡ true → words (s ++ z) ≡ words s
unfolding words split filled
words_behind s z h = rw ((parts_behind s z h).0, (parts_behind s z h).1)

pub words_in_line : (ws : List Bytes) → plain.plain_words ws ≡ true → words (in_line ws) ≡ ws
unfolding in_line
words_in_line [] h = unfold words split parts filled null in refl
words_in_line (w ∷ ws) h = words_line w ws h

-- ---- the phrases of what is read

pub phrases_bytes : (s w : Bytes) (y : Inlines) → phrases s (joined (bytes w) y) ≡ phrases (s ++ w) y
unfolding phrases joined bytes
phrases_bytes s [] y = rw (append-nil s)
phrases_bytes s (b ∷ w) y = phrases_bytes (s ++ (b ∷ [])) w y ∙ ap (λ (r : Bytes). phrases r y) (append_assoc s (b ∷ []) w)

bytes_of_lem : (w : Bytes) → bytes_of (bytes w) ≡ some w
unfolding bytes_of bytes
bytes_of_lem [] = refl
bytes_of_lem (b ∷ w) = rw (bytes_of_lem w) (unfold after in refl)

pub phrases_wrap : (m : Bool) (s w : Bytes) (y : Inlines) (ps : List Phrase) → phrases [] y ≡ some ps
    → phrases s (joined (wrap m (bytes w)) y) ≡ some (between s (cond m strongly emphasised (words w) ∷ ps))
unfolding phrases joined wrap emphasis_then
phrases_wrap true s w y ps h = rw (bytes_of_lem w, h)
phrases_wrap false s w y ps h = rw (bytes_of_lem w, h)

-- white bytes are no phrase
pub between_white : (s : Bytes) (ps : List Phrase) → every white s ≡ true → between s ps ≡ ps
unfolding between null
between_white s ps h = rw (white_words s h)

pub between_some : (s : Bytes) (ps : List Phrase) → null (words s) ≡ false → between s ps ≡ plain_words (words s) ∷ ps
unfolding between
between_some s ps h = rw h

pub between_behind : (s z : Bytes) (ps : List Phrase) → every white z ≡ true → between (s ++ z) ps ≡ between s ps
unfolding between
between_behind s z ps h = rw (words_behind s z h)
