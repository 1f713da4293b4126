-- The first word of a text, where it may start a line.
use Prim.Native.Nat.{ℕ, suc, ◌+◌, ◌-◌, ◌≤◌, ◌<◌}
use mathlib.Core.Path.{◌≡◌, refl, sym, ap, ◌∙◌}
use mathlib.Core.Bool.{Bool, true, false, cond, not, ◌&&◌, ◌||◌, false≢true, and-false, or-true, not-not, and-eq-true_iff}
use mathlib.Core.List.{[], ◌∷◌, ◌++◌}
use native.Mathlib.Omega.{arith}
use native.Mathlib.Numerals.{add-one}
use lib.ListN.{length, take, drop, get_or, drop_of_length-le, take-append-drop}
use lib.Seq.{drop-cons}
use lib.Dec.{eqb, leb}
use borrow.Author.Tests.{leb-true, ne_eqb, eqb-true}
use Rattle.spec.specs.Bytes.{Bytes, ascii, isin, null, same, ends_with, every, white, digit, parts, cut_at}
use Rattle.spec.specs.Md.Constants.{ALWAYS_ESCAPED, LINE_START_ESCAPED}
use Rattle.spec.specs.Md.TextUtils.{is_ordered_list_marker, is_escaped, escaped_from, escaped_chunk}
use Rattle.spec.proofs.Order.{one_less}
use Rattle.text.specs.Class.{ordinary}
use Rattle.text.specs.Flow.{starts_black, last_dot, MayStart}
use Rattle.normalized.proofs.Markers.{marker_short}
use Rattle.input.proofs.Sequences.{below, below_at}
use Rattle.normalized.specs.Layout.{LineSign}
use Rattle.text.proofs.Ordinary.{neither, not_white, letter_starts, bare_chunk}
use Rattle.normalized.proofs.Flowing.{null_first, drop_last}

digit_range : (b : ℕ) → digit b ≡ true → (48 ≤ b) × (b ≤ 57)
unfolding digit
digit_range b h = let q = (and-eq-true_iff (leb 48 b) (leb b 57)).0 h in (leb-true 48 b q.0, leb-true b 57 q.1)

pub digit_black : (b : ℕ) → digit b ≡ true → white b ≡ false
digit_black b h = not_white b (omega (arith, (digit_range b h).0))

-- ---- a marker byte by byte

-- behind a digit, another counts for nothing
marker_on : (b c : ℕ) (w : Bytes) → digit b ≡ true → digit c ≡ true → is_ordered_list_marker (b ∷ c ∷ w) ≡ is_ordered_list_marker (c ∷ w)
unfolding is_ordered_list_marker ends_with null every same
marker_on b c [] h k =
    let r = digit_range c k in rw (ne_eqb c 46 (λ q. omega (arith, r.0)), ne_eqb c 41 (λ q. omega (arith, r.0)))
marker_on b c (d ∷ w) h k = rw (one_less (suc (suc (length w))), one_less (suc (length w)), h)

-- any other byte is the last, and a dot
marker_end : (b c : ℕ) (w : Bytes) → digit b ≡ true → digit c ≡ false → is_ordered_list_marker (b ∷ c ∷ w) ≡ (eqb c 46 || eqb c 41) && null w
unfolding is_ordered_list_marker ends_with null every same
marker_end b c [] h k = rw h (go (eqb c 46) (eqb c 41))
  where
    go : (x y : Bool) → ((x && true) || (y && true)) && true ≡ (x || y) && true
    go true y = refl
    go false true = refl
    go false false = refl
marker_end b c (d ∷ w) h k = rw (one_less (suc (suc (length w))), h, k, and-false, and-false)

-- ---- the first word

-- digits, if any, and behind them the last dot of a word
unfoldable pub marker_tail : Bytes → Bool
marker_tail [] = false
marker_tail (b ∷ s) = cond (digit b) (marker_tail s) (last_dot (b ∷ s))

word_marker : (b : ℕ) (s : Bytes) → digit b ≡ true → is_ordered_list_marker (b ∷ (parts white s).0) ≡ marker_tail s
unfolding parts cut_at marker_tail last_dot
word_marker b [] h = marker_short (b ∷ []) (omega arith)
word_marker b (c ∷ s) h = on (white c) (digit c) refl refl (word_marker c s)
  where
    no_dot : (d : ℕ) → white d ≡ false → white c ≡ true → eqb c d ≡ false
    no_dot d w e = ne_eqb c d (λ q. false≢true (sym w ∙ sym (ap white q) ∙ e))

    on : (v d : Bool) → white c ≡ v → digit c ≡ d → (digit c ≡ true → is_ordered_list_marker (c ∷ (parts white s).0) ≡ marker_tail s)
        → is_ordered_list_marker (b ∷ (cut_at v c (parts white s)).0) ≡ cond d (marker_tail s) ((eqb c 46 || eqb c 41) && not (starts_black s))
    on true true e k r = absurd (false≢true (sym (digit_black c k) ∙ e))
    on true false e k r =
        marker_short (b ∷ []) (omega arith) ∙ sym (rw (no_dot 46 (not_white 46 (omega arith)) e, no_dot 41 (not_white 41 (omega arith)) e))
    on false true e k r = marker_on b c (parts white s).0 h k ∙ r k
    on false false e k r = marker_end b c (parts white s).0 h k ∙ ap (λ (t : Bool). (eqb c 46 || eqb c 41) && t) (null_first s)

pub marker_begun : (s : Bytes) → digit (get_or s 0 0) ≡ true → is_ordered_list_marker (parts white s).0 ≡ marker_tail (drop 1 s)
unfolding parts cut_at
marker_begun [] h = absurd (omega (arith, (digit_range 0 h).0))
marker_begun (b ∷ s) h = rw (digit_black b h) (word_marker b s h)

pub tail_on : (s : Bytes) (i : ℕ) → i < length s → digit (get_or s i 0) ≡ true → marker_tail (drop i s) ≡ marker_tail (drop (i + 1) s)
unfolding marker_tail
tail_on s i h e = rw (drop-cons s i 0 h, add-one i, e)

pub tail_here : (s : Bytes) (i : ℕ) → i < length s → digit (get_or s i 0) ≡ false → marker_tail (drop i s) ≡ last_dot (drop i s)
unfolding marker_tail
tail_here s i h e = rw (drop-cons s i 0 h, e)

pub tail_none : (s : Bytes) (i : ℕ) → length s ≤ i → marker_tail (drop i s) ≡ false
unfolding marker_tail
tail_none s i h = rw (drop_of_length-le s {i = i} h)

-- ---- the last dot of a word

pub dot_here : (s : Bytes) (i : ℕ) → i < length s → last_dot (drop i s) ≡ (eqb (get_or s i 0) 46 || eqb (get_or s i 0) 41) && not (starts_black (drop (i + 1) s))
unfolding last_dot
dot_here s i h = rw (drop-cons s i 0 h, add-one i)

pub dot_at_end : (s : Bytes) (i : ℕ) → length s ≡ i + 1 → eqb (get_or s i 0) 46 || eqb (get_or s i 0) 41 ≡ true → last_dot (drop i s) ≡ true
unfolding starts_black
dot_at_end s i h e = dot_here s i (omega arith) ∙ rw (e, drop_of_length-le s {i = i + 1} (omega arith))

pub dot_before : (s : Bytes) (i : ℕ) → i + 1 < length s → eqb (get_or s i 0) 46 || eqb (get_or s i 0) 41 ≡ true → last_dot (drop i s) ≡ white (get_or s (i + 1) 0)
unfolding starts_black
dot_before s i h e = dot_here s i (omega arith) ∙ rw (e, drop-cons s (i + 1) 0 h) (not-not (white (get_or s (i + 1) 0)))

-- ---- which words may start a line

first_byte : (s : Bytes) → 33 ≤ get_or s 0 0 → get_or (parts white s).0 0 0 ≡ get_or s 0 0
unfolding parts cut_at
first_byte [] h = refl
first_byte (b ∷ s) h = rw (not_white b h)

pub first_letter : (s : Bytes) → 65 ≤ get_or s 0 0 → MayStart (parts white s).0
first_letter s h = letter_starts (parts white s).0 (omega (arith, first_byte s (omega arith)))

pub first_digit : (s : Bytes) → digit (get_or s 0 0) ≡ true → is_ordered_list_marker (parts white s).0 ≡ false → MayStart (parts white s).0
first_digit s h m =
    let r = digit_range (get_or s 0 0) h in
    let e = first_byte s (omega (arith, r.0)) in
    record { above_dot = omega (arith, r.0); no_underline = λ q. omega (arith, r.1); no_quote = λ q. omega (arith, r.1); no_marker = m }

-- ---- what the first word of a line has more than elsewhere

-- no test of the beginning of a line holds
pub line_plain : (w : Bytes) → is_ordered_list_marker w ≡ false → isin (get_or w 0 0) LINE_START_ESCAPED || every (λ b. eqb b 61) w ≡ false → LineSign w true (length w)
unfolding escaped_chunk escaped_from is_escaped
line_plain w m h = record { within = omega arith; none = λ e. on w m h; some = λ q. absurd (omega arith) }
  where
    on : (w : Bytes) → is_ordered_list_marker w ≡ false → isin (get_or w 0 0) LINE_START_ESCAPED || every (λ b. eqb b 61) w ≡ false → escaped_chunk w true true ≡ escaped_chunk w true false
    on [] m h = refl
    on (b ∷ t) m h =
        let q = neither (isin b LINE_START_ESCAPED) (every (λ c. eqb c 61) (b ∷ t)) h in
        rw (m, q.0, q.1)

-- the signs that are escaped at the beginning of a line are escaped nowhere else
first_sign : ℕ → Bool
first_sign b = not (isin b LINE_START_ESCAPED || eqb b 61) || (not (isin b ALWAYS_ESCAPED) && not (eqb b 33))

all_first : below first_sign 256 ≡ true
unfolding below first_sign isin
all_first = refl

first_else : (b : ℕ) → b < 256 → isin b LINE_START_ESCAPED || eqb b 61 ≡ true → (isin b ALWAYS_ESCAPED ≡ false) × (eqb b 33 ≡ false)
unfolding first_sign
first_else b h = on (isin b LINE_START_ESCAPED || eqb b 61) (isin b ALWAYS_ESCAPED) (eqb b 33) (below_at first_sign 256 b all_first h)
  where
    on : (s a x : Bool) → not s || (not a && not x) ≡ true → s ≡ true → (a ≡ false) × (x ≡ false)
    on false a x k e = absurd (false≢true e)
    on true true x k e = absurd (false≢true k)
    on true false true k e = absurd (false≢true k)
    on true false false k e = (refl, refl)

pub line_first : (w : Bytes) → 0 < length w → get_or w 0 0 < 256 → is_ordered_list_marker w ≡ false → isin (get_or w 0 0) LINE_START_ESCAPED || every (λ b. eqb b 61) w ≡ true → LineSign w true 0
unfolding escaped_chunk escaped_from is_escaped every
line_first [] p l m h = absurd (omega arith)
line_first (b ∷ t) p l m h =
    let s = isin b LINE_START_ESCAPED in
    let e = eqb b 61 in
    let q = every (λ c. eqb c 61) t in
    let a = first_else b l (some s e q h) in
    record {
      within = omega arith;
      none = λ z. absurd (omega arith);
      some = λ z. record { begins = refl; rest = escaped_chunk (b ∷ t) true false; bare = refl; with_sign = rw (m, a.0, a.1, both s e q h); without = refl };
    }
  where
    some : (s e q : Bool) → s || (e && q) ≡ true → s || e ≡ true
    some true e q h = refl
    some false true q h = refl
    some false false q h = h

    both : (s e q : Bool) → s || (e && q) ≡ true → s || ((e && q) && e) ≡ true
    both true e q h = refl
    both false true true h = refl
    both false true false h = h
    both false false q h = h

-- a digit is no sign
digit_signs : (b : ℕ) → digit b ≡ true → (isin b ALWAYS_ESCAPED ≡ false) × (isin b LINE_START_ESCAPED ≡ false) × (isin b (ascii ".)") ≡ false) × (eqb b 33 ≡ false) × (eqb b 61 ≡ false)
unfolding isin
digit_signs b h =
    let r = digit_range b h in
    let low = r.0 in
    let high = r.1 in
    let n : (k : ℕ) → (b ≡ k → ⊥) → eqb b k ≡ false = λ k q. ne_eqb b k q in (
      rw (n 92 (λ q. omega arith), n 96 (λ q. omega arith), n 42 (λ q. omega arith), n 95 (λ q. omega arith), n 91 (λ q. omega arith), n 93 (λ q. omega arith), n 60 (λ q. omega arith), n 124 (λ q. omega arith), n 126 (λ q. omega arith)),
      rw (n 35 (λ q. omega arith), n 62 (λ q. omega arith), n 45 (λ q. omega arith), n 43 (λ q. omega arith)),
      rw (n 46 (λ q. omega arith), n 41 (λ q. omega arith)),
      n 33 (λ q. omega arith),
      n 61 (λ q. omega arith),
    )

digits_ordinary : (s : Bytes) → every digit s ≡ true → every ordinary s ≡ true
unfolding every
digits_ordinary [] h = refl
digits_ordinary (b ∷ s) h =
    let q = (and-eq-true_iff (digit b) (every digit s)).0 h in
    let r = digit_signs b q.0 in
    rw (digit_black b q.0, r.0, r.3, digits_ordinary s q.1)

marked_digits : (start u : Bool) (s : Bytes) (d : ℕ) → every digit s ≡ true → isin d (ascii ".)") ≡ true → escaped_from start true u (s ++ (d ∷ [])) ≡ s ++ (ascii "\\" ++ (d ∷ []))
unfolding escaped_from is_escaped every
marked_digits start u [] d h e = simp (e, or-true)
marked_digits start u (b ∷ s) d h e =
    let q = (and-eq-true_iff (digit b) (every digit s)).0 h in
    let r = digit_signs b q.0 in
    simp (r.0, r.1, r.2, r.3, r.4, and-false, marked_digits false u s d q.1 e)

dot_ordinary : (d : ℕ) → isin d (ascii ".)") ≡ true → ordinary d ≡ true
unfolding isin white
dot_ordinary d h = on (eqb d 46) (eqb d 41) refl refl h
  where
    on : (x y : Bool) → eqb d 46 ≡ x → eqb d 41 ≡ y → x || (y || false) ≡ true → ordinary d ≡ true
    on true y e f k = ap ordinary (eqb-true d 46 e)
    on false true e f k = ap ordinary (eqb-true d 41 f)
    on false false e f k = absurd (false≢true k)

every_snoc : (p : ℕ → Bool) (s : Bytes) (d : ℕ) → every p s ≡ true → p d ≡ true → every p (s ++ (d ∷ [])) ≡ true
unfolding every
every_snoc p [] d h e = rw e
every_snoc p (b ∷ s) d h e = let q = (and-eq-true_iff (p b) (every p s)).0 h in rw (q.0, every_snoc p s d q.1 e)

-- a marker: the digits, and the dot behind them
pub line_marker : (w : Bytes) → 0 < length w → is_ordered_list_marker w ≡ true → LineSign w true (length w - 1)
unfolding is_ordered_list_marker ends_with same isin escaped_chunk
line_marker w p m =
    let n = length w - 1 in
    let d = get_or w n 0 in
    let q = (and-eq-true_iff (ends_with (ascii ".") w || ends_with (ascii ")") w) (not (null (take n w)) && every digit (take n w))).0 m in
    let digits = ((and-eq-true_iff (not (null (take n w))) (every digit (take n w))).0 q.1).1 in
    let last = drop_last w n (omega arith) in
    let dot : isin d (ascii ".)") ≡ true = dotted d (ap (λ (x : Bytes). same x (ascii ".") || same x (ascii ")")) (sym last) ∙ q.0) in
    let all : take n w ++ (d ∷ []) ≡ w = ap (λ (x : Bytes). take n w ++ x) (sym last) ∙ take-append-drop n w in
    let bare = digits_ordinary (take n w) digits in
    record {
      within = omega arith;
      none = λ z. absurd (omega arith);
      some = λ z. record {
        begins = refl;
        rest = d ∷ [];
        bare = bare;
        with_sign = ap (λ (k : Bool). escaped_from true k (every (λ b. eqb b 61) w) w) m ∙ ap (escaped_from true true (every (λ b. eqb b 61) w)) (sym all) ∙ marked_digits true (every (λ b. eqb b 61) w) (take n w) d digits dot;
        without = bare_chunk w true false (λ e. ap (every ordinary) (sym all) ∙ every_snoc ordinary (take n w) d bare (dot_ordinary d dot)) (λ e f. absurd (false≢true f)) ∙ sym all;
      };
    }
  where
    dotted : (d : ℕ) → same (d ∷ []) (ascii ".") || same (d ∷ []) (ascii ")") ≡ true → isin d (ascii ".)") ≡ true
    dotted d h = on (eqb d 46) (eqb d 41) h
      where
        on : (x y : Bool) → (x && true) || (y && true) ≡ true → x || (y || false) ≡ true
        on true y h = refl
        on false true h = refl
        on false false h = h
