-- The beginnings of lines: the first byte of words, the blanks before it, and the markers of items.
use Rattle.std.specs.Prelude.{ℕ, zero, suc, ◌+◌, ◌≤◌, ◌≡◌, refl, Bool, true, false, cond, not, ◌||◌, List, [], ◌∷◌, ◌++◌, eqb, leb, length, replicate}
use Rattle.std.proofs.Common.{arith, ap, ◌∙◌, append_assoc, le-leb, leb-true}
use Rattle.std.proofs.lemmas.Bool.{false≢true, not-true}
use Rattle.std.proofs.Math.Bool.{or-true}
use Rattle.std.proofs.Math.Option.{Option, none, some}
use Rattle.spec.specs.Bytes.{Bytes, ascii, null, isin, every, white, digit, take_while, value_from, decimal}
use Rattle.spec.specs.ListNumber.{largest_number}
use Rattle.spec.specs.Md.TextUtils.{is_escaped, escaped_from, escaped_chunk, more_words}
use Rattle.spec.specs.Reading.Lines.{space_or_tab, blank_line, drop_while, drop_run, column, width, strip}
use Rattle.spec.specs.Reading.Definitions.{definition}
use Rattle.spec.specs.Reading.Starts.{item_start, thematic_break, ends, underline, bullet_by, bullet, rule_or, number_by, number, digit_lead, lead, start_by, start, starts_at_one, start_if, interrupting, underline_or, start_in}
use Rattle.spec.specs.Decimal.{length_nine, length_least}
use Rattle.spec.proofs.Tests.{and_l, and_r, apart}
use Rattle.recovery.proofs.Digits.{decimal_value, decimal_digits}
use Rattle.recovery.proofs.Words.{kept, plain_byte, plain_word, plain_words, plain_bytes}
use Rattle.recovery.proofs.Starts.{mild, bare_mild}
use Rattle.recovery.specs.Closed.{phrase, marker, interrupts}

-- ---- the first byte of words

-- a backslash, or a byte that begins nothing but, perhaps, a number
unfoldable pub opener : ℕ → Bool
opener b = eqb b 92 || mild b

unfoldable pub opens : Bytes → Bool
opens [] = false
opens (b ∷ r) = opener b

opens_by : (s m u : Bool) (b : ℕ) (w r t : Bytes) → is_escaped true m u b w ≡ s → plain_byte b ≡ true
    → opens ((cond s (ascii "\\") [] ++ (b ∷ r)) ++ t) ≡ true
unfolding opens opener
opens_by true m u b w r t e h = refl
opens_by false m u b w r t e h = rw (bare_mild m u b w h e) (or-true (eqb b 92))

pub opens_phrase : (w : Bytes) (ws : List Bytes) → plain_words (w ∷ ws) ≡ true → opens (phrase (w ∷ ws)) ≡ true
unfolding phrase escaped_chunk escaped_from plain_words plain_word null every
opens_phrase [] ws h = absurd (false≢true h)
opens_phrase (b ∷ w) ws h = opens_by _ _ _ b w _ (more_words true ws) refl (and_l (plain_byte b) _ (plain_bytes (b ∷ w) (and_l (plain_word (b ∷ w)) _ h)))

opener_not : (b x : ℕ) → opener b ≡ true → opener x ≡ false → eqb b x ≡ false
opener_not b x h n = apart opener b x h n

opener_blank : (b : ℕ) → opener b ≡ true → space_or_tab b ≡ false
unfolding opener mild plain_byte kept white isin space_or_tab
opener_blank b h = rw (opener_not b 32 h refl, opener_not b 9 h refl)

-- such words are no link definition
pub opens_definition : (t : Bytes) → opens t ≡ true → definition t ≡ false
unfolding opens definition opener mild plain_byte kept white isin
opens_definition [] h = absurd (false≢true h)
opens_definition (b ∷ t) h = rw (opener_not b 91 h refl)

-- ---- blanks before a line

-- the line begins with a byte that is no blank
unfoldable pub solid : Bytes → Bool
solid [] = false
solid (b ∷ r) = not (space_or_tab b)

pub opens_solid : (t : Bytes) → opens t ≡ true → solid t ≡ true
unfolding opens solid
opens_solid [] h = h
opens_solid (b ∷ t) h = rw (opener_blank b h)

pub solid_null : (r : Bytes) → solid r ≡ true → null r ≡ false
unfolding solid null
solid_null [] h = absurd (false≢true h)
solid_null (b ∷ r) h = refl

solid_blank : (r : Bytes) → solid r ≡ true → blank_line r ≡ false
unfolding solid blank_line every
solid_blank [] h = absurd (false≢true h)
solid_blank (b ∷ r) h = rw (not-true (space_or_tab b) h)

solid_column : (c : ℕ) (r : Bytes) → solid r ≡ true → column c r ≡ c
unfolding solid column
solid_column c [] h = absurd (false≢true h)
solid_column c (b ∷ r) h = rw (not-true (space_or_tab b) h)

solid_strip : (r : Bytes) → solid r ≡ true → strip r ≡ r
unfolding solid strip drop_while
solid_strip [] h = absurd (false≢true h)
solid_strip (b ∷ r) h = rw (not-true (space_or_tab b) h)

-- i blanks and then r
pub indented_blank : (i : ℕ) (r : Bytes) → solid r ≡ true → blank_line (replicate i 32 ++ r) ≡ false
unfolding blank_line every space_or_tab
indented_blank zero r h = solid_blank r h
indented_blank (suc i) r h = indented_blank i r h

pub indented_column : (c i : ℕ) (r : Bytes) → solid r ≡ true → column c (replicate i 32 ++ r) ≡ c + i
unfolding column space_or_tab width
indented_column c zero r h = solid_column c r h ∙ omega arith
indented_column c (suc i) r h = indented_column (c + 1) i r h ∙ omega arith

pub indented_strip : (i : ℕ) (r : Bytes) → solid r ≡ true → strip (replicate i 32 ++ r) ≡ r
unfolding strip drop_while space_or_tab
indented_strip zero r h = solid_strip r h
indented_strip (suc i) r h = indented_strip i r h

-- ---- bullets

opens_rule : (n : ℕ) (t : Bytes) → opens t ≡ true → thematic_break 45 n t ≡ false
unfolding opens thematic_break opener mild plain_byte kept white isin
opens_rule n [] h = absurd (false≢true h)
opens_rule n (b ∷ t) h = rw (opener_not b 45 h refl, opener_blank b h)

start_bullet : (t : Bytes) → opens t ≡ true → start (45 ∷ 32 ∷ t) ≡ item_start none 1 (32 ∷ t)
unfolding start start_by lead rule_or thematic_break bullet bullet_by ends space_or_tab
start_bullet t h = rw (opens_rule 1 t h)

-- ---- numbers

take_digits : (ds t : Bytes) → every digit ds ≡ true → take_while digit (ds ++ (46 ∷ t)) ≡ ds
unfolding take_while every digit
take_digits [] t h = refl
take_digits (b ∷ ds) t h = rw (and_l (digit b) _ h, take_digits ds t (and_r (digit b) _ h))

drop_digits : (ds t : Bytes) → every digit ds ≡ true → drop_while digit (ds ++ (46 ∷ t)) ≡ 46 ∷ t
unfolding drop_while every digit
drop_digits [] t h = refl
drop_digits (b ∷ ds) t h = rw (and_l (digit b) _ h) (drop_digits ds t (and_r (digit b) _ h))

pub lead_digit : (b : ℕ) → digit b ≡ true → lead b ≡ digit_lead
unfolding lead digit
lead_digit b h =
    rw (
      apart digit b 35 h refl,
      apart digit b 62 h refl,
      apart digit b 60 h refl,
      apart digit b 96 h refl,
      apart digit b 126 h refl,
      apart digit b 95 h refl,
      apart digit b 45 h refl,
      apart digit b 42 h refl,
      apart digit b 43 h refl,
      h,
    )

start_digits : (ds t : Bytes) → every digit ds ≡ true → 1 ≤ length ds → length ds ≤ 9
    → start (ds ++ (46 ∷ 32 ∷ t)) ≡ item_start (some (value_from 0 ds)) (suc (length ds)) (32 ∷ t)
unfolding start start_by every number number_by ends space_or_tab
start_digits [] t h k l = absurd (omega arith)
start_digits (b ∷ ds) t h k l =
    rw (
      lead_digit b (and_l (digit b) _ h),
      take_digits ds (32 ∷ t) (and_r (digit b) _ h),
      drop_digits ds (32 ∷ t) (and_r (digit b) _ h),
      le-leb (suc (length ds)) 9 l,
    )

pub start_number : (n : ℕ) (t : Bytes) → n ≤ 999999999
    → start (decimal n ++ (46 ∷ 32 ∷ t)) ≡ item_start (some n) (suc (length (decimal n))) (32 ∷ t)
start_number n t h =
    start_digits (decimal n) t (decimal_digits n) (length_least n) (length_nine n h)
    ∙ ap (λ (v : ℕ). item_start (some v) (suc (length (decimal n))) (32 ∷ t)) (decimal_value n)

-- ---- the markers of items

-- how many bytes a marker has before its blank
unfoldable pub marker_width : Option ℕ → ℕ
marker_width none = 1
marker_width (some n) = suc (length (decimal n))

unfoldable pub small_number : Option ℕ → Bool
small_number none = true
small_number (some n) = leb n largest_number

-- an item's line begins the item, with its number
pub start_marker : (number : Option ℕ) (t : Bytes) → small_number number ≡ true → opens t ≡ true
    → start (marker number ++ t) ≡ item_start number (marker_width number) (32 ∷ t)
unfolding marker marker_width small_number largest_number
start_marker none t k h = start_bullet t h
start_marker (some n) t k h = rw (append_assoc (decimal n) (46 ∷ 32 ∷ []) t) (start_number n t (leb-true n 999999999 k))

-- it is no underline
pub digits_underline : (ds t : Bytes) → every digit ds ≡ true → 1 ≤ length ds → underline (ds ++ t) ≡ false
unfolding underline every digit
digits_underline [] t h k = absurd (omega arith)
digits_underline (b ∷ ds) t h k =
    rw (apart digit b 61 (and_l (digit b) _ h) refl, apart digit b 45 (and_l (digit b) _ h) refl)

marker_underline : (number : Option ℕ) (t : Bytes) → opens t ≡ true → underline (marker number ++ t) ≡ false
unfolding marker underline drop_run blank_line every space_or_tab
marker_underline none t h = solid_blank t (opens_solid t h)
marker_underline (some n) t h =
    rw (append_assoc (decimal n) (46 ∷ 32 ∷ []) t) (digits_underline (decimal n) (46 ∷ 32 ∷ t) (decimal_digits n) (length_least n))

starts_at_one_lem : (number : Option ℕ) → starts_at_one number ≡ interrupts number
unfolding starts_at_one interrupts
starts_at_one_lem none = refl
starts_at_one_lem (some n) = refl

behind_blank : (t : Bytes) → opens t ≡ true → blank_line (32 ∷ t) ≡ false
unfolding blank_line every space_or_tab
behind_blank t h = solid_blank t (opens_solid t h)

-- also where a paragraph is open, if the item can interrupt one
pub start_item : (par : Bool) (number : Option ℕ) (t : Bytes) → small_number number ≡ true → opens t ≡ true
    → (par ≡ true → interrupts number ≡ true) → start_in par (marker number ++ t) ≡ item_start number (marker_width number) (32 ∷ t)
unfolding start_in underline_or interrupting start_if
start_item false number t k h i = start_marker number t k h
start_item true number t k h i =
    rw (marker_underline number t h, start_marker number t k h, behind_blank t h, starts_at_one_lem number, i refl)

-- the line itself begins with no blank
pub digits_solid : (ds t : Bytes) → every digit ds ≡ true → 1 ≤ length ds → solid (ds ++ t) ≡ true
unfolding solid every digit space_or_tab
digits_solid [] t h k = absurd (omega arith)
digits_solid (b ∷ ds) t h k =
    rw (apart digit b 32 (and_l (digit b) _ h) refl, apart digit b 9 (and_l (digit b) _ h) refl)

pub marker_solid : (number : Option ℕ) (t : Bytes) → solid (marker number ++ t) ≡ true
unfolding marker solid space_or_tab
marker_solid none t = refl
marker_solid (some n) t =
    rw (append_assoc (decimal n) (46 ∷ 32 ∷ []) t) (digits_solid (decimal n) (46 ∷ 32 ∷ t) (decimal_digits n) (length_least n))
