-- An escaped line begins no block: at the beginning of a line or of an item, words are text.
use Rattle.std.specs.Prelude.{ℕ, suc, ◌≡◌, Bool, true, false, cond, not, ◌&&◌, ◌||◌, List, [], ◌∷◌, ◌++◌, eqb, leb, length, take, drop}
use Rattle.std.proofs.Common.{sym, ap, ◌∙◌, true≢false, eqb-true}
use Rattle.std.proofs.Math.Path.{refl}
use Rattle.std.proofs.lemmas.Bool.{false≢true}
use Rattle.std.proofs.Math.Bool.{and-false, and-true, or-false}
use Rattle.spec.specs.Bytes.{Bytes, ascii, null, same, isin, every, ends_with, white, digit}
use Rattle.spec.specs.Md.TextUtils.{is_ordered_list_marker, is_escaped, escaped_from, escaped_chunk, more_words}
use Rattle.spec.specs.Reading.Lines.{space_or_tab, drop_while}
use Rattle.spec.specs.Reading.Starts.{text_start, ends, number_by, number, digit_lead, other_lead, lead, start_by, start}
use Rattle.spec.proofs.Order.{one_less}
use Rattle.spec.proofs.Tests.{and_l, and_r, or_l, or_r, or_elim, apart, isin_no}
use Rattle.recovery.proofs.Words.{kept, plain_byte, plain_word, plain_words, plain_bytes}
use Rattle.recovery.specs.Closed.{phrase}

-- ---- a list marker among words

unfoldable pub dot : ℕ → Bool
dot b = eqb b 46 || eqb b 41

-- some digits, and a dot behind which nothing stands
unfoldable pub dot_ends : Bytes → Bool
dot_ends [] = false
dot_ends (b ∷ w) = cond (digit b) (dot_ends w) (dot b && null w)

pub dot_digit : (b : ℕ) → dot b ≡ true → digit b ≡ false
unfolding dot digit
dot_digit b h = or_elim (eqb b 46) (eqb b 41) (λ e. ap digit (eqb-true b 46 e)) (λ e. ap digit (eqb-true b 41 e)) h

-- the last byte and the bytes before it, of b ∷ w
unfoldable last_dot : ℕ → Bytes → Bool
last_dot b w = same (drop (length w) (b ∷ w)) (46 ∷ []) || same (drop (length w) (b ∷ w)) (41 ∷ [])

last_dot_lem : (b : ℕ) (w : Bytes) → (last_dot b w && every digit (take (length w) (b ∷ w))) ≡ dot_ends (b ∷ w)
unfolding last_dot dot_ends every same null dot digit
last_dot_lem b [] = go (digit b) refl
  where
    go : (t : Bool) → digit b ≡ t → (((eqb b 46 && true) || (eqb b 41 && true)) && true) ≡ cond t false (dot b && true)
    go true e = rw (apart digit b 46 e refl, apart digit b 41 e refl)
    go false e = simp and-true
last_dot_lem b (c ∷ w) = go (digit b) (last_dot_lem c w)
  where
    go : (t : Bool) → (last_dot c w && every digit (take (length w) (c ∷ w))) ≡ dot_ends (c ∷ w)
        → (last_dot c w && (t && every digit (take (length w) (c ∷ w)))) ≡ cond t (dot_ends (c ∷ w)) (dot b && false)
    go true ih = ih
    go false ih = rw (and-false (last_dot c w), and-false (dot b))

-- behind a first digit, a word is a list marker just where its other bytes are digits and a last dot
pub marker_dot_ends : (b : ℕ) (w : Bytes) → digit b ≡ true → is_ordered_list_marker (b ∷ w) ≡ dot_ends w
unfolding is_ordered_list_marker ends_with null dot_ends last_dot every same
marker_dot_ends b [] h = simp and-false
marker_dot_ends b (c ∷ w) h = rw (one_less (suc (length w)), h) (last_dot_lem c w)

-- ---- the bytes that escapes leave bare

digit_escaped : (m u : Bool) (b : ℕ) (r : Bytes) → digit b ≡ true → is_escaped false m u b r ≡ false
unfolding is_escaped digit every
digit_escaped m u b r h =
    rw (isin_no digit b (ascii "\\`*_[]<|~") h refl, apart digit b 33 h refl, isin_no digit b (ascii ".)") h refl, and-false m)

dot_escaped : (m u : Bool) (b : ℕ) (r : Bytes) → dot b ≡ true → is_escaped false m u b r ≡ m
unfolding is_escaped dot every isin
dot_escaped m u b r h =
    rw (isin_no dot b (ascii "\\`*_[]<|~") h refl, apart dot b 33 h refl, or-false (eqb b 41), h) (or-false _ ∙ and-true m)

-- ---- a number that no marker follows

pub plain_blank : (b : ℕ) → plain_byte b ≡ true → space_or_tab b ≡ false
unfolding plain_byte white isin space_or_tab
plain_blank b h = rw (apart plain_byte b 32 h refl, apart plain_byte b 9 h refl)

-- behind a byte of a word stands no blank
ends_by : (s : Bool) (b : ℕ) (r t : Bytes) → plain_byte b ≡ true → ends ((cond s (ascii "\\") [] ++ (b ∷ r)) ++ t) ≡ false
unfolding ends space_or_tab
ends_by true b r t h = refl
ends_by false b r t h = plain_blank b h

pub ends_from : (start m u : Bool) (b : ℕ) (w t : Bytes) → plain_byte b ≡ true → ends (escaped_from start m u (b ∷ w) ++ t) ≡ false
unfolding escaped_from
ends_from start m u b w t h = ends_by (is_escaped start m u b w) b (escaped_from false m u w) t h

-- what follows the digits ds of a line
unfoldable pub Numberless : Bytes → Type 0
Numberless r = (ds : Bytes) → number ds (drop_while digit r) ≡ text_start

numberless_more : (ws : List Bytes) → Numberless (more_words true ws)
unfolding Numberless more_words number number_by drop_while digit
numberless_more [] ds = refl
numberless_more (w ∷ ws) ds = refl

numberless_digit : (b : ℕ) (r : Bytes) → digit b ≡ true → Numberless r → Numberless (b ∷ r)
unfolding Numberless drop_while
numberless_digit b r d h ds = rw d (h ds)

numberless_other : (s : Bool) (b : ℕ) (r t : Bytes) → digit b ≡ false → dot b ≡ false
    → Numberless ((cond s (ascii "\\") [] ++ (b ∷ r)) ++ t)
unfolding Numberless drop_while number number_by dot digit
numberless_other true b r t d o ds = refl
numberless_other false b r t d o ds = rw (d, o)

numberless_dot : (m u : Bool) (b : ℕ) (w t : Bytes) → dot b ≡ true → null w ≡ m → every plain_byte w ≡ true
    → Numberless ((cond m (ascii "\\") [] ++ (b ∷ escaped_from false m u w)) ++ t)
unfolding Numberless drop_while number number_by null every dot
numberless_dot true u b w t d e h ds = unfold digit in refl
numberless_dot false u b [] t d e h ds = absurd (true≢false e)
numberless_dot false u b (x ∷ w) t d e h ds =
    rw (dot_digit b d, ends_from false false u x w t (and_l (plain_byte x) _ h), and-false (leb (length ds) 9), and-false (eqb b 46 || eqb b 41))

numberless_word : (m u : Bool) (w t : Bytes) → dot_ends w ≡ m → every plain_byte w ≡ true → Numberless t
    → Numberless (escaped_from false m u w ++ t)
unfolding escaped_from every dot_ends
numberless_word m u [] t e h k = k
numberless_word m u (b ∷ w) t e h k =
    go (digit b) (dot b) refl refl e (λ e. numberless_word m u w t e (and_r (plain_byte b) _ h) k)
  where
    go : (d o : Bool) → digit b ≡ d → dot b ≡ o → cond d (dot_ends w) (dot b && null w) ≡ m
        → (dot_ends w ≡ m → Numberless (escaped_from false m u w ++ t))
        → Numberless ((cond (is_escaped false m u b w) (ascii "\\") [] ++ (b ∷ escaped_from false m u w)) ++ t)
    go true o d q e ih = rw (digit_escaped m u b w d) (numberless_digit b (escaped_from false m u w ++ t) d (ih e))
    go false true d q e ih = rw (dot_escaped m u b w q) (numberless_dot m u b w t q (rw q at e) (and_r (plain_byte b) _ h))
    go false false d q e ih = numberless_other (is_escaped false m u b w) b (escaped_from false m u w) t d q

-- ---- the first byte

-- a byte that begins nothing but, perhaps, a number
unfoldable pub mild : ℕ → Bool
mild b = plain_byte b && (not (isin b (ascii "\\`*_[]<|~")) && not (isin b (ascii "#>-+")))

pub lead_mild : (b : ℕ) → mild b ≡ true → lead b ≡ cond (digit b) digit_lead other_lead
unfolding lead mild plain_byte kept white isin
lead_mild b h =
    rw (
      apart mild b 35 h refl,
      apart mild b 62 h refl,
      apart mild b 60 h refl,
      apart mild b 96 h refl,
      apart mild b 126 h refl,
      apart mild b 95 h refl,
      apart mild b 45 h refl,
      apart mild b 42 h refl,
      apart mild b 43 h refl,
    )

pub bare_mild : (m u : Bool) (b : ℕ) (r : Bytes) → plain_byte b ≡ true → is_escaped true m u b r ≡ false → mild b ≡ true
unfolding mild is_escaped
bare_mild m u b r k h =
    rw (
      k,
      or_l (isin b (ascii "\\`*_[]<|~")) _ h,
      or_l (isin b (ascii "#>-+")) _ (or_r (isin b (ascii "\\`*_[]<|~")) _ h),
    )

start_by_lem : (s m u : Bool) (b : ℕ) (w t : Bytes) → is_escaped true m u b w ≡ s → (digit b ≡ true → dot_ends w ≡ m) → every plain_byte (b ∷ w) ≡ true
    → Numberless t → start ((cond s (ascii "\\") [] ++ (b ∷ escaped_from false m u w)) ++ t) ≡ text_start
unfolding start start_by every lead digit Numberless
start_by_lem true m u b w t e k h n = refl
start_by_lem false m u b w t e k h n = rw (lead_mild b (bare_mild m u b w (and_l (plain_byte b) _ h) e)) (go (digit b) refl)
  where
    go : (d : Bool) → digit b ≡ d → start_by (cond d digit_lead other_lead) b (escaped_from false m u w ++ t) ≡ text_start
    go true d = numberless_word m u w t (k d) (and_r (plain_byte b) _ h) n _
    go false d = refl

-- a line of words begins no block
pub start_phrase : (w : Bytes) (ws : List Bytes) → plain_words (w ∷ ws) ≡ true → start (phrase (w ∷ ws)) ≡ text_start
unfolding phrase escaped_chunk escaped_from plain_words plain_word null
start_phrase [] ws h = absurd (false≢true h)
start_phrase (b ∷ w) ws h =
    start_by_lem _ (is_ordered_list_marker (b ∷ w)) (every (λ b. eqb b 61) (b ∷ w)) b w (more_words true ws) refl
    (λ d. sym (marker_dot_ends b w d)) (plain_bytes (b ∷ w) (and_l (plain_word (b ∷ w)) _ h)) (numberless_more ws)
