-- Markers of list items at the end of a text.
use Prim.Native.Nat.{ℕ, ◌-◌, ◌≤◌, ◌<◌}
use mathlib.Core.Path.{◌≡◌, sym, ap, ◌∙◌}
use mathlib.Core.Bool.{Bool, true, false, cond, not, ◌||◌, and-false}
use mathlib.Core.List.{List, [], ◌∷◌}
use native.Mathlib.Omega.{arith}
use lib.ListN.{length, take, drop}
use lib.Seq.{length-take-le, take-take, take-length}
use borrow.Author.Tests.{le-leb, lt-leb}
use Rattle.spec.specs.Bytes.{ascii, same, isin, ends_with, every, null, digit, one, trim_end_matches, blank}
use Rattle.spec.specs.Md.TextUtils.{is_ordered_list_marker, before_marker, at_indent, ends_with_marker_digits}
use Rattle.text.specs.Trimmed.{Trimmed}
use Rattle.text.proofs.Reading.{null_none, null_some, drop_take}

pub marker_short : (s : List ℕ) → length s < 2 → is_ordered_list_marker s ≡ false
unfolding is_ordered_list_marker null
marker_short [] h = and-false (ends_with (ascii ".") [] || ends_with (ascii ")") [])
marker_short (x ∷ []) h = and-false (ends_with (ascii ".") (x ∷ []) || ends_with (ascii ")") (x ∷ []))
marker_short (x ∷ y ∷ s) h = absurd (omega arith)

pub marker_other : (s : List ℕ) → ends_with (46 ∷ []) s || ends_with (41 ∷ []) s ≡ false → is_ordered_list_marker s ≡ false
unfolding is_ordered_list_marker
marker_other s e = rw e

pub marker_digits : (s : List ℕ) → 2 ≤ length s → ends_with (46 ∷ []) s || ends_with (41 ∷ []) s ≡ true → every digit (take (length s - 1) s) ≡ is_ordered_list_marker s
unfolding is_ordered_list_marker
marker_digits s h e = sym (rw (e, null_some (take (length s - 1) s) (λ q. omega (arith, length-take-le (length s - 1) s (omega arith)))))

-- ---- the text before a marker

abbrev pub in_word : ℕ → Bool
in_word = λ b. not (isin b (ascii " \n"))

abbrev pub is_marker : List ℕ → Bool
is_marker word = same word (ascii "-") || (same word (ascii "+") || is_ordered_list_marker word)

pub no_blank : (stem : List ℕ) → ends_with (32 ∷ []) stem ≡ false → before_marker stem ≡ stem
unfolding before_marker
no_blank stem e = rw e

-- b is where the word begins
module _ (stem : List ℕ) (b : ℕ) (e : ends_with (32 ∷ []) stem ≡ true)
    (t : Trimmed (take (length stem - 1) stem) b (trim_end_matches (one in_word) (take (length stem - 1) stem))) where
  abbrev before : List ℕ
  before = trim_end_matches (one in_word) (take (length stem - 1) stem)

  word_is : take (length stem - 1 - b) (drop b stem) ≡ drop (length before) (take (length stem - 1) stem)
  word_is =
      sym (ap (λ (k : ℕ). drop k (take (length stem - 1) stem)) (ap length (sym t.is) ∙ length-take-le b (take (length stem - 1) stem) t.within) ∙ drop_take b (length stem - 1) stem)

  chosen : (m : Bool) → m ≡ is_marker (take (length stem - 1 - b) (drop b stem)) → before_marker stem ≡ cond m before stem
  unfolding before_marker
  chosen m q = rw e (ap (λ (w : Bool). cond w before stem) (sym (q ∙ ap is_marker word_is)))

  pub marker_before : (m : Bool) → m ≡ is_marker (take (length stem - 1 - b) (drop b stem)) → m ≡ true → Trimmed stem b (before_marker stem)
  marker_before m q z =
      let w : b ≤ length stem - 1 = omega (arith, t.within, length-take-le (length stem - 1) stem (omega arith)) in
      record {
        within = omega arith;
        is = sym (take-take b (length stem - 1) stem w) ∙ t.is ∙ sym (chosen m q ∙ ap (λ (x : Bool). cond x before stem) z);
      }

  pub marker_none : (m : Bool) → m ≡ is_marker (take (length stem - 1 - b) (drop b stem)) → m ≡ false → Trimmed stem (length stem) (before_marker stem)
  marker_none m q z =
      record { within = omega arith; is = take-length stem ∙ sym (chosen m q ∙ ap (λ (x : Bool). cond x before stem) z) }

-- ---- digits behind it

module _ (s : List ℕ) (n : ℕ) (t : Trimmed s n (trim_end_matches (one blank) s)) where
  pub indent_none : n ≡ 0 → at_indent s ≡ true
  unfolding at_indent
  indent_none e = rw (sym t.is, null_none (take n s) (ap length (ap (λ (k : ℕ). take k s) e)))

  pub indent_some : (n ≡ 0 → ⊥) → ends_with (10 ∷ []) (take n s) ≡ at_indent s
  unfolding at_indent
  indent_some h = sym (rw (sym t.is, null_some (take n s) (λ q. h (sym (length-take-le n s t.within) ∙ q))))

module _ (s : List ℕ) (n : ℕ) (t : Trimmed s n (trim_end_matches (one digit) s)) where
  stem_length : length (trim_end_matches (one digit) s) ≡ n
  stem_length = ap length (sym t.is) ∙ length-take-le n s t.within

  pub digits_none : length s - n < 1 → ends_with_marker_digits s ≡ false
  unfolding ends_with_marker_digits
  digits_none h = rw (stem_length, lt-leb 1 (length s - n) h)

  pub digits_many : 9 < length s - n → ends_with_marker_digits s ≡ false
  unfolding ends_with_marker_digits
  digits_many h = rw (stem_length, lt-leb (length s - n) 9 h, le-leb 1 (length s - n) (omega arith))

  pub digits_some : (m : ℕ) → (length s - n < 1 → ⊥) → (9 < length s - n → ⊥) → Trimmed (take n s) m (before_marker (take n s)) → at_indent (take m s) ≡ ends_with_marker_digits s
  unfolding ends_with_marker_digits
  digits_some m h k u =
      let w : m ≤ n = omega (arith, u.within, length-take-le n s t.within) in
      sym (rw (stem_length, le-leb 1 (length s - n) (omega arith), le-leb (length s - n) 9 (omega arith))
      (ap at_indent (ap before_marker (sym t.is) ∙ sym u.is ∙ take-take m n s w)))
