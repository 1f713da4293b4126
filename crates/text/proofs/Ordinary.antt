-- Words of ordinary bytes: they are appended as they are.
use Prim.Native.Nat.{ℕ, suc, ◌-◌, ◌≤◌, ◌<◌}
use mathlib.Core.Path.{◌≡◌, refl, sym, ap, ◌∙◌}
use mathlib.Core.Bool.{Bool, true, false, cond, not, ◌&&◌, ◌||◌, false≢true, and-false, and-eq-true_iff}
use mathlib.Core.List.{List, [], ◌∷◌, ◌++◌}
use native.Mathlib.Omega.{arith}
use lib.ListN.{length, take, get_or}
use lib.Dec.{eqb}
use borrow.Author.Tests.{ne_eqb, le-leb, lt-leb}
use Rattle.spec.specs.Bytes.{ascii, null, isin, white, digit, every, ends_with}
use Rattle.spec.specs.Md.Constants.{ALWAYS_ESCAPED}
use Rattle.spec.specs.Md.TextUtils.{is_escaped, escaped_from, escaped_chunk, is_ordered_list_marker}
use Rattle.text.specs.Class.{ordinary}
use Rattle.text.specs.Flow.{MayStart}
use Rattle.text.specs.Marks.{marks}

-- neither of two
pub neither : (a b : Bool) → a || b ≡ false → (a ≡ false) × (b ≡ false)
neither true b e = absurd (false≢true (sym e))
neither false b e = (refl, e)

-- ---- ordinary bytes

-- an ordinary byte is not white, not escaped wherever it stands, and no `!`
pub ordinary_parts : (w e x : Bool) → not w && (not e && not x) ≡ true → (w ≡ false) × (e ≡ false) × (x ≡ false)
ordinary_parts true e x h = absurd (false≢true h)
ordinary_parts false true x h = absurd (false≢true h)
ordinary_parts false false true h = absurd (false≢true h)
ordinary_parts false false false h = (refl, refl, refl)

pub not_white : (b : ℕ) → 33 ≤ b → white b ≡ false
unfolding white isin
not_white b h =
    rw (ne_eqb b 9 (λ q. omega arith), ne_eqb b 10 (λ q. omega arith), ne_eqb b 12 (λ q. omega arith), ne_eqb b 13 (λ q. omega arith), ne_eqb b 32 (λ q. omega arith)) refl

-- ---- no escapes

pub not_escaped : (u : Bool) (b : ℕ) (s : List ℕ) → isin b ALWAYS_ESCAPED ≡ false → eqb b 33 ≡ false → is_escaped false false u b s ≡ false
unfolding is_escaped
not_escaped u b s e f = rw (e, f) refl

ordinary_escaped : (u : Bool) (s : List ℕ) → every ordinary s ≡ true → escaped_from false false u s ≡ s
unfolding escaped_from every
ordinary_escaped u [] h = refl
ordinary_escaped u (b ∷ s) h =
    let q = (and-eq-true_iff (ordinary b) (every ordinary s)).0 h in
    let r = ordinary_parts (white b) (isin b ALWAYS_ESCAPED) (eqb b 33) q.0 in
    ap (λ (t : Bool). cond t (ascii "\\") [] ++ (b ∷ escaped_from false false u s)) (not_escaped u b s r.1 r.2)
    ∙ ap (λ (x : List ℕ). b ∷ x) (ordinary_escaped u s q.1)

-- which bytes are escaped behind the beginning of a line does not depend on the underline
inner_marks : (u : Bool) (s : List ℕ) → escaped_from false false u s ≡ escaped_from false false false s
unfolding escaped_from is_escaped
inner_marks u [] = refl
inner_marks u (b ∷ s) = ap (λ (x : List ℕ). cond (is_escaped false false false b s) (ascii "\\") [] ++ (b ∷ x)) (inner_marks u s)

pub inner_chunk : (s : List ℕ) (escape : Bool) → escaped_chunk s escape false ≡ marks escape false false false s
unfolding escaped_chunk
inner_chunk s true = inner_marks (every (λ b. eqb b 61) s) s
inner_chunk s false = refl

-- ---- the beginning of a line

not_digit : (b : ℕ) → 65 ≤ b → digit b ≡ false
unfolding digit
not_digit b h = rw (le-leb 48 b (omega arith), lt-leb b 57 (omega arith)) refl

no_marker : (b : ℕ) (t : List ℕ) → 65 ≤ b → is_ordered_list_marker (b ∷ t) ≡ false
unfolding is_ordered_list_marker null every
no_marker b [] h = and-false (ends_with (ascii ".") (b ∷ []) || ends_with (ascii ")") (b ∷ []))
no_marker b (y ∷ t) h =
    let n : length (b ∷ y ∷ t) - 1 ≡ suc (length t) = omega arith in
    ap (λ (k : ℕ). (ends_with (ascii ".") (b ∷ y ∷ t) || ends_with (ascii ")") (b ∷ y ∷ t)) && (not (null (take k (b ∷ y ∷ t))) && every digit (take k (b ∷ y ∷ t)))) n
    ∙ ap (λ (d : Bool). (ends_with (ascii ".") (b ∷ y ∷ t) || ends_with (ascii ")") (b ∷ y ∷ t)) && (d && every digit (take (length t) (y ∷ t)))) (not_digit b h)
    ∙ and-false (ends_with (ascii ".") (b ∷ y ∷ t) || ends_with (ascii ")") (b ∷ y ∷ t))

-- a word that begins with no sign and no digit
pub letter_starts : (w : List ℕ) → 65 ≤ get_or w 0 0 → MayStart w
letter_starts [] h = absurd (omega arith)
letter_starts (b ∷ w) h =
    record { above_dot = omega arith; no_underline = λ q. omega arith; no_quote = λ q. omega arith; no_marker = no_marker b w h }

not_escaped_first : (u : Bool) (b : ℕ) (s : List ℕ) → isin b ALWAYS_ESCAPED ≡ false → eqb b 33 ≡ false → 48 ≤ b → (b ≡ 61 → ⊥) → (b ≡ 62 → ⊥) → is_escaped true false u b s ≡ false
unfolding is_escaped isin
not_escaped_first u b s e f h k l =
    rw (e, f, ne_eqb b 35 (λ q. omega arith), ne_eqb b 62 l, ne_eqb b 45 (λ q. omega arith), ne_eqb b 43 (λ q. omega arith), ne_eqb b 61 k) (and-false u)

-- a chunk stands as it is where nothing is escaped, and one of ordinary bytes at the beginning of a line too where it may start one
pub bare_chunk : (s : List ℕ) (escape start : Bool) → (escape ≡ true → every ordinary s ≡ true) → (escape ≡ true → start ≡ true → 0 < length s → MayStart s) → escaped_chunk s escape start ≡ s
unfolding escaped_chunk escaped_from every
bare_chunk s false start h k = refl
bare_chunk s true false h k = ordinary_escaped (every (λ b. eqb b 61) s) s (h refl)
bare_chunk [] true true h k = refl
bare_chunk (b ∷ s) true true h k =
    let starts = k refl refl (omega arith) in
    let q = (and-eq-true_iff (ordinary b) (every ordinary s)).0 (h refl) in
    let r = ordinary_parts (white b) (isin b ALWAYS_ESCAPED) (eqb b 33) q.0 in
    let u = eqb b 61 && every (λ c. eqb c 61) s in
    ap (λ (m : Bool). escaped_from true m u (b ∷ s)) starts.no_marker
    ∙ ap (λ (t : Bool). cond t (ascii "\\") [] ++ (b ∷ escaped_from false false u s)) (not_escaped_first u b s r.1 r.2 starts.above_dot starts.no_underline starts.no_quote)
    ∙ ap (λ (x : List ℕ). b ∷ x) (ordinary_escaped u s q.1)
