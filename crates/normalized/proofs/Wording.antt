-- Words: where they begin and end.
use Prim.Native.Nat.{ℕ, zero, suc, ◌+◌, ◌-◌, ◌≤◌, ◌<◌}
use mathlib.Core.Path.{◌≡◌, refl, sym, ap, ◌∙◌}
use mathlib.Core.Bool.{Bool, true, false, cond, not, ◌&&◌}
use mathlib.Core.List.{List, [], ◌∷◌}
use native.Mathlib.Omega.{arith}
use lib.ListN.{length, take, drop, get_or, length-drop}
use lib.Seq.{slice, length-slice, drop-drop, length-take-le, take-take, take-nil, drop-nil}
use lib.Dec.{eqb}
use borrow.Author.Tests.{eq-eqb, ne_eqb, eqb-true, eqb-false}
use Rattle.spec.specs.Bytes.{white, null, every, is_blank, words, split, parts, cut_at, filled, trim_start_matches}
use Rattle.spec.specs.Bytes.{first_word}
use Rattle.spec.specs.Md.TextUtils.{starts_with_white}
use Rattle.input.proofs.Rules.{null_length}
use Rattle.text.proofs.Sourcing.{part_byte}
use Rattle.text.specs.Trimmed.{Skipped}
use Rattle.normalized.specs.Words.{WordAt, WordEnd}
use Rattle.text.proofs.Reading.{drop_take, null_some}

abbrev pub black : ℕ → Bool
black b = not (white b)

shorter : (p : ℕ → Bool) (s : List ℕ) → length (trim_start_matches p s) ≤ length s
unfolding trim_start_matches
shorter p [] = omega arith
shorter p (b ∷ s) = go (shorter p s) (p b)
  where
    go : length (trim_start_matches p s) ≤ length s → (t : Bool) → length (cond t (trim_start_matches p s) (b ∷ s)) ≤ length (b ∷ s)
    go h true = omega arith
    go h false = omega arith

-- ---- white bytes in front

words_white : (s : List ℕ) → words s ≡ words (trim_start_matches white s)
unfolding words split parts cut_at filled null trim_start_matches
words_white [] = refl
words_white (b ∷ s) = go (words_white s) (white b) refl
  where
    go : words s ≡ words (trim_start_matches white s) → (t : Bool) → white b ≡ t → words (b ∷ s) ≡ words (cond t (trim_start_matches white s) (b ∷ s))
    go h true e = rw e h
    go h false e = refl

first_black : (s : List ℕ) → 0 < length (trim_start_matches white s) → white (get_or (trim_start_matches white s) 0 0) ≡ false
unfolding trim_start_matches
first_black [] h = absurd (omega arith)
first_black (b ∷ s) h = go (first_black s) (white b) refl h
  where
    go : (0 < length (trim_start_matches white s) → white (get_or (trim_start_matches white s) 0 0) ≡ false) → (t : Bool) → white b ≡ t → 0 < length (cond t (trim_start_matches white s) (b ∷ s)) → white (get_or (cond t (trim_start_matches white s) (b ∷ s)) 0 0) ≡ false
    go f true e h = f h
    go f false e h = e

starts_white : (s : List ℕ) (k : ℕ) → Skipped s k (trim_start_matches white s) → starts_with_white s ≡ not (eqb k 0)
unfolding starts_with_white trim_start_matches
starts_white [] k p = rw (eq-eqb k 0 (omega (arith, p.within)))
starts_white (b ∷ s) k p = go (white b) p.is
  where
    go : (t : Bool) → drop k (b ∷ s) ≡ cond t (trim_start_matches white s) (b ∷ s) → t ≡ not (eqb k 0)
    go true e = rw (ne_eqb k 0 (λ q. omega (arith, ap length e, length-drop k (b ∷ s), shorter white s)))
    go false e = rw (eq-eqb k 0 (omega (arith, ap length e, length-drop k (b ∷ s))))

blank_all : (s : List ℕ) → every white s ≡ null (trim_start_matches white s)
unfolding every null trim_start_matches
blank_all [] = refl
blank_all (b ∷ s) = go (blank_all s) (white b)
  where
    go : every white s ≡ null (trim_start_matches white s) → (t : Bool) → t && every white s ≡ null (cond t (trim_start_matches white s) (b ∷ s))
    go h true = h
    go h false = refl

module _ (s : List ℕ) (i to k : ℕ) (h : i ≤ to) (l : to ≤ length s) where
  on : drop k (slice i to s) ≡ slice (i + k) to s
  on = drop-drop k i (take to s)

  reach : k ≤ length (slice i to s) → i + k ≤ to
  reach q = omega (arith, length-slice i to s l)

  pub word_at : Skipped (slice i to s) k (trim_start_matches white (slice i to s)) → WordAt s i to (i + k)
  unfolding is_blank
  word_at p =
      let e : slice (i + k) to s ≡ trim_start_matches white (slice i to s) = sym on ∙ p.is in
      let w : i + k ≤ to = reach p.within in
      record {
        from = omega arith;
        within = w;
        black = λ q.
            let z : i + k + 0 ≡ i + k = omega arith in
            ap white (sym (part_byte s (i + k) to 0 (omega arith) ∙ ap (λ (j : ℕ). get_or s j 0) z) ∙ ap (λ (x : List ℕ). get_or x 0 0) e)
            ∙ first_black (slice i to s) (omega (arith, ap length e, length-slice (i + k) to s l));
        same_words = words_white (slice i to s) ∙ ap words (sym e);
        begins_white = starts_white (slice i to s) k p ∙ ap not (both (eqb k 0) (λ z. eq-eqb (i + k) i (omega arith)) (λ z. ne_eqb (i + k) i (λ q. z (omega arith))) refl);
        all_white = blank_all (slice i to s) ∙ ap null (sym e) ∙ null_length (slice (i + k) to s) ∙ ends;
      }
    where
      both : (t : Bool) → (k ≡ 0 → eqb (i + k) i ≡ true) → ((k ≡ 0 → ⊥) → eqb (i + k) i ≡ false) → eqb k 0 ≡ t → t ≡ eqb (i + k) i
      both true f g e = sym (f (eqb-true k 0 e))
      both false f g e = sym (g (eqb-false k 0 e))

      ends : eqb (length (slice (i + k) to s)) 0 ≡ eqb (i + k) to
      ends = go (eqb (i + k) to) refl
        where
          go : (t : Bool) → eqb (i + k) to ≡ t → eqb (length (slice (i + k) to s)) 0 ≡ t
          go true e = eq-eqb (length (slice (i + k) to s)) 0 (omega (arith, eqb-true (i + k) to e, length-slice (i + k) to s l))
          go false e = ne_eqb (length (slice (i + k) to s)) 0 (λ q. eqb-false (i + k) to e (omega (arith, length-slice (i + k) to s l, reach p.within)))

-- ---- the first word

-- k black bytes begin s
first_parts : (s : List ℕ) (k : ℕ) → Skipped s k (trim_start_matches black s) → ((parts white s).0 ≡ take k s) × (filled (parts white s).1 ≡ words (drop k s))
unfolding words split parts cut_at filled null trim_start_matches
first_parts [] k p = (sym (take-nil k), ap words (sym (drop-nil k)))
first_parts (b ∷ s) k p = go (first_parts s) (white b) refl k p
  where
    go : ((k : ℕ) → Skipped s k (trim_start_matches black s) → ((parts white s).0 ≡ take k s) × (filled (parts white s).1 ≡ words (drop k s))) → (t : Bool) → white b ≡ t → (k : ℕ) → Skipped (b ∷ s) k (cond (not t) (trim_start_matches black s) (b ∷ s))
        → ((cut_at t b (parts white s)).0 ≡ take k (b ∷ s)) × (filled (cut_at t b (parts white s)).1 ≡ words (drop k (b ∷ s)))
    go f true e k p =
        let z : k ≡ 0 = omega (arith, ap length p.is, length-drop k (b ∷ s), p.within) in
        (ap (λ (j : ℕ). take j (b ∷ s)) (sym z), (rw e refl) ∙ ap (λ (j : ℕ). words (drop j (b ∷ s))) (sym z))
    go f false e zero p = absurd (omega (arith, ap length p.is, shorter black s))
    go f false e (suc k) p =
        let r = f k (record { within = omega (arith, p.within); is = p.is }) in
        (ap (λ (x : List ℕ). b ∷ x) r.0, r.1)

black_some : (s : List ℕ) (k : ℕ) → 0 < length s → white (get_or s 0 0) ≡ false → Skipped s k (trim_start_matches black s) → 0 < k
unfolding trim_start_matches
black_some [] k h e p = absurd (omega arith)
black_some (b ∷ s) zero h e p =
    let q : b ∷ s ≡ trim_start_matches black s = p.is ∙ ap (λ (t : Bool). cond (not t) (trim_start_matches black s) (b ∷ s)) e in
    absurd (omega (arith, ap length q, shorter black s))
black_some (b ∷ s) (suc k) h e p = omega arith

words_first : (s : List ℕ) (k : ℕ) → 0 < k → Skipped s k (trim_start_matches black s) → words s ≡ take k s ∷ words (drop k s)
unfolding words split filled
words_first s k h p =
    let r = first_parts s k p in
    let n : null (parts white s).0 ≡ false = ap null r.0 ∙ null_some (take k s) (λ q. omega (arith, length-take-le k s p.within)) in
    ap (λ (t : Bool). cond t (filled (parts white s).1) ((parts white s).0 ∷ filled (parts white s).1)) n
    ∙ ap (λ (x : List ℕ). x ∷ filled (parts white s).1) r.0
    ∙ ap (λ (x : List (List ℕ)). take k s ∷ x) r.1

pub slice_front : (s : List ℕ) (i to k : ℕ) → i + k ≤ to → take k (slice i to s) ≡ slice i (i + k) s
slice_front s i to k h =
    let a : i + k - i ≡ k = omega arith in
    ap (take k) (drop_take i to s) ∙ take-take k (to - i) (drop i s) (omega arith) ∙ ap (λ (j : ℕ). take j (drop i s)) (sym a) ∙ sym (drop_take i (i + k) s)

pub word_end : (s : List ℕ) (i to k : ℕ) → i < to → to ≤ length s → white (get_or s i 0) ≡ false → Skipped (slice i to s) k (trim_start_matches black (slice i to s)) → WordEnd s i to (i + k)
word_end s i to k h l b p =
    let m : length (slice i to s) ≡ to - i = length-slice i to s l in
    let z : i + 0 ≡ i = omega arith in
    let f : get_or (slice i to s) 0 0 ≡ get_or s i 0 = part_byte s i to 0 (omega arith) ∙ ap (λ (j : ℕ). get_or s j 0) z in
    let pos : 0 < k = black_some (slice i to s) k (omega arith) (ap white f ∙ b) p in
    let w : i + k ≤ to = omega (arith, p.within) in
    record {
      some = omega arith;
      within = w;
      first = words_first (slice i to s) k pos p ∙ ap (λ (x : List ℕ). x ∷ words (drop k (slice i to s))) (slice_front s i to k w)
          ∙ ap (λ (x : List ℕ). slice i (i + k) s ∷ words x) (drop-drop k i (take to s));
    }

-- ---- the first word of a text

first_of : (s : List ℕ) (n : ℕ) → (0 < length s → white (get_or s 0 0) ≡ false) → Skipped s n (trim_start_matches black s) → first_word (words s) ≡ take n s
unfolding first_word words split parts filled null
first_of [] n h p = sym (take-nil n)
first_of (x ∷ s) n h p = ap first_word (words_first (x ∷ s) n (black_some (x ∷ s) n (omega arith) (h (omega arith)) p) p)

pub first_word_lem : (raw : List ℕ) (k n : ℕ) → Skipped raw k (trim_start_matches white raw) → Skipped (drop k raw) n (trim_start_matches black (drop k raw)) → first_word (words raw) ≡ take n (drop k raw)
first_word_lem raw k n p q =
    ap first_word (words_white raw ∙ ap words (sym p.is))
    ∙ first_of (drop k raw) n (λ h. ap (λ (s : List ℕ). white (get_or s 0 0)) p.is ∙ first_black raw (omega (arith, ap length p.is))) q
