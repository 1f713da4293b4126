-- Closing sequences of headings: where there is one, and what the reader does where there is none.
use Rattle.std.specs.Prelude.{ℕ, ◌≡◌, refl, Bool, true, cond, ◌&&◌, ◌||◌, eqb}
use Rattle.std.proofs.Math.Path.{sym}
use Rattle.std.proofs.Common.{ap, ◌∙◌, true≢false, eqb-true, ne_eqb}
use Rattle.std.proofs.Math.Bool.{false, and-false}
use Rattle.std.proofs.lemmas.Bool.{false≢true, eqb-false}
use mathlib.Core.List.{[], ◌∷◌, ◌++◌}
use Rattle.spec.specs.Bytes.{Bytes, null, isin, every, blank, one, trim_end_matches}
use Rattle.spec.specs.Reading.Lines.{space_or_tab, blank_line, head_is, drop_run}
use Rattle.spec.specs.Reading.Starts.{closing_sequence, without_closing}
use Rattle.spec.proofs.Tests.{and_l, and_r, or_l, or_r, or_elim}
use Rattle.recovery.specs.Closed.{hash}
use Rattle.recovery.proofs.Written.Ends.{trim_none}

-- in e some byte k stands before a run of # that nothing but blanks follow
unfoldable pub closes_by : ℕ → Bytes → Bool
closes_by k [] = false
closes_by k (b ∷ r) = (eqb b k && (head_is 35 r && closing_sequence r)) || closes_by k r

-- ---- where there is none

-- the reader cuts no more off than blanks
blank_drop : (r : Bytes) → head_is 35 r ≡ false → drop_run 35 r ≡ r
unfolding head_is drop_run
blank_drop [] h = refl
blank_drop (b ∷ r) h = rw h

closed_none : (b : ℕ) (r : Bytes) → space_or_tab b ≡ true → closing_sequence r ≡ true → closes_by 32 (b ∷ r) ≡ false → closes_by 9 (b ∷ r) ≡ false
    → head_is 35 r ≡ false
unfolding closes_by space_or_tab
closed_none b r h k p q = go (head_is 35 r) (or_l (eqb b 32 && (head_is 35 r && closing_sequence r)) _ p) (or_l (eqb b 9 && (head_is 35 r && closing_sequence r)) _ q)
  where
    go : (t : Bool) → (eqb b 32 && (t && closing_sequence r)) ≡ false → (eqb b 9 && (t && closing_sequence r)) ≡ false → t ≡ false
    go true p q =
        absurd (or_elim (eqb b 32) (eqb b 9) (λ e. true≢false (rw (e, k) at p)) (λ e. true≢false (rw (e, k) at q)) h)
    go false p q = refl

all_blank : (b : ℕ) (r : Bytes) → space_or_tab b ≡ true → closing_sequence r ≡ true → drop_run 35 r ≡ r → every space_or_tab (b ∷ r) ≡ true
unfolding closing_sequence blank_line every
all_blank b r s c d = rw s (rw d at c)

pub closing_none : (e : Bytes) → closes_by 32 e ≡ false → closes_by 9 e ≡ false
    → trim_end_matches (one space_or_tab) (without_closing e) ≡ trim_end_matches (one space_or_tab) e
unfolding without_closing closes_by
closing_none [] h k = refl
closing_none (b ∷ r) h k =
    go (space_or_tab b && closing_sequence r) refl
    (closing_none r (or_r (eqb b 32 && (head_is 35 r && closing_sequence r)) _ h) (or_r (eqb b 9 && (head_is 35 r && closing_sequence r)) _ k))
  where
    go : (t : Bool) → (space_or_tab b && closing_sequence r) ≡ t
        → trim_end_matches (one space_or_tab) (without_closing r) ≡ trim_end_matches (one space_or_tab) r
        → trim_end_matches (one space_or_tab) (cond t [] (b ∷ without_closing r)) ≡ trim_end_matches (one space_or_tab) (b ∷ r)
    go true e ih =
        let s : space_or_tab b ≡ true = and_l (space_or_tab b) _ e in
        let c : closing_sequence r ≡ true = and_r (space_or_tab b) _ e in
        let d : drop_run 35 r ≡ r = blank_drop r (closed_none b r s c h k) in
        trim_none space_or_tab [] (unfold every in refl) ∙ sym (trim_none space_or_tab (b ∷ r) (all_blank b r s c d))
    go false e ih = unfold trim_end_matches in rw ih

-- ---- behind a backslash

slash_blank : (p r : Bytes) → blank_line (p ++ (92 ∷ r)) ≡ false
unfolding blank_line every space_or_tab
slash_blank [] r = refl
slash_blank (b ∷ p) r = rw (slash_blank p r) (and-false (space_or_tab b))

slash_closing : (p r : Bytes) → closing_sequence (p ++ (92 ∷ r)) ≡ false
unfolding closing_sequence drop_run
slash_closing [] r = slash_blank [] r
slash_closing (b ∷ p) r = go (eqb b 35) (slash_closing p r)
  where
    go : (t : Bool) → blank_line (drop_run 35 (p ++ (92 ∷ r))) ≡ false → blank_line (cond t (drop_run 35 (p ++ (92 ∷ r))) (b ∷ (p ++ (92 ∷ r)))) ≡ false
    go true ih = ih
    go false ih = slash_blank (b ∷ p) r

pub slash_closes : (k : ℕ) (p r : Bytes) → eqb 92 k ≡ false → closes_by k (p ++ (92 ∷ r)) ≡ closes_by k r
unfolding closes_by
slash_closes k [] r h = rw h
slash_closes k (b ∷ p) r h = rw (slash_closing p r, and-false (head_is 35 (p ++ (92 ∷ r))), and-false (eqb b k)) (slash_closes k p r h)

free_head : (w : Bytes) → isin 35 w ≡ false → head_is 35 w ≡ false
unfolding isin head_is
free_head [] h = refl
free_head (b ∷ w) h = ne_eqb b 35 (λ e. eqb-false 35 b (or_l (eqb 35 b) _ h) (sym e))

free_closes : (k : ℕ) (w : Bytes) → isin 35 w ≡ false → closes_by k w ≡ false
unfolding closes_by isin
free_closes k [] h = refl
free_closes k (b ∷ w) h =
    let r : isin 35 w ≡ false = or_r (eqb 35 b) _ h in
    rw (free_head w r, and-false (eqb b k)) (free_closes k w r)

pub run_closes : (k : ℕ) (hs w : Bytes) → eqb 35 k ≡ false → every hash hs ≡ true → isin 35 w ≡ false → closes_by k (hs ++ w) ≡ false
unfolding closes_by every hash
run_closes k [] w n h f = free_closes k w f
run_closes k (b ∷ hs) w n h f = rw (eqb-true b 35 (and_l (eqb b 35) _ h), n) (run_closes k hs w n (and_r (eqb b 35) _ h) f)

-- ---- where there is one

-- a byte k, a run of #, and blanks
pub record Closes (k : ℕ) (e : Bytes) : Type 0 where
  pub front : Bytes
  pub hashes : Bytes
  pub blanks : Bytes
  pub is : e ≡ front ++ (k ∷ (hashes ++ blanks))
  pub some : null hashes ≡ false
  pub all : every hash hashes ≡ true
  pub blank : every space_or_tab blanks ≡ true

-- the run that a text begins with, and what follows it
record Run (r : Bytes) : Type 0 where
  hashes : Bytes
  parts : r ≡ hashes ++ drop_run 35 r
  all : every hash hashes ≡ true
  some : head_is 35 r ≡ true → null hashes ≡ false

run_of : (r : Bytes) → Run r
unfolding drop_run head_is
run_of [] = record { hashes = []; parts = refl; all = unfold every in refl; some = λ e. absurd (false≢true e) }
run_of (b ∷ r) = go (eqb b 35) refl (run_of r)
  where
    go : (t : Bool) → eqb b 35 ≡ t → Run r → Run (b ∷ r)
    go true e p =
        record {
          hashes = b ∷ p.hashes;
          parts = rw e (ap (λ (x : Bytes). b ∷ x) p.parts);
          all = unfold every hash in rw e p.all;
          some = λ q. unfold null in refl;
        }
    go false e p =
        record { hashes = []; parts = rw e; all = unfold every in refl; some = λ q. absurd (false≢true (sym e ∙ q)) }

blanks_of : (r : Bytes) → closing_sequence r ≡ true → every space_or_tab (drop_run 35 r) ≡ true
unfolding closing_sequence blank_line
blanks_of r h = h

pub closes : (k : ℕ) (e : Bytes) → closes_by k e ≡ true → Closes k e
unfolding closes_by
closes k [] h = absurd (false≢true h)
closes k (b ∷ r) h = go (eqb b k && (head_is 35 r && closing_sequence r)) refl h (λ q. closes k r q)
  where
    go : (t : Bool) → (eqb b k && (head_is 35 r && closing_sequence r)) ≡ t → (t || closes_by k r) ≡ true → (closes_by k r ≡ true → Closes k r) → Closes k (b ∷ r)
    go true e h f =
        let p : Run r = run_of r in
        let q : (head_is 35 r && closing_sequence r) ≡ true = and_r (eqb b k) _ e in
        record {
          front = [];
          hashes = p.hashes;
          blanks = drop_run 35 r;
          is = rw (eqb-true b k (and_l (eqb b k) _ e)) (ap (λ (x : Bytes). k ∷ x) p.parts);
          some = p.some (and_l (head_is 35 r) _ q);
          all = p.all;
          blank = blanks_of r (and_r (head_is 35 r) _ q);
        }
    go false e h f =
        let c : Closes k r = f h in
        record {
          front = b ∷ c.front;
          hashes = c.hashes;
          blanks = c.blanks;
          is = ap (λ (x : Bytes). b ∷ x) c.is;
          some = c.some;
          all = c.all;
          blank = c.blank;
        }

-- ---- blanks behind the text

blank_head : (r z : Bytes) → every blank z ≡ true → head_is 35 (r ++ z) ≡ head_is 35 r
unfolding head_is every blank
blank_head [] [] h = refl
blank_head [] (b ∷ z) h = rw (eqb-true b 32 (and_l (eqb b 32) _ h))
blank_head (b ∷ r) z h = refl

pub blank_line_lem : (r z : Bytes) → every blank z ≡ true → blank_line (r ++ z) ≡ blank_line r
unfolding blank_line every blank space_or_tab
blank_line_lem [] [] h = refl
blank_line_lem [] (b ∷ z) h = rw (eqb-true b 32 (and_l (eqb b 32) _ h)) (blank_line_lem [] z (and_r (eqb b 32) _ h))
blank_line_lem (b ∷ r) z h = rw (blank_line_lem r z h)

blank_closing : (r z : Bytes) → every blank z ≡ true → closing_sequence (r ++ z) ≡ closing_sequence r
unfolding closing_sequence drop_run
blank_closing [] z h = rw (blank_drop z (blank_head [] z h ∙ unfold head_is in refl)) (blank_line_lem [] z h)
blank_closing (b ∷ r) z h = go (eqb b 35) (blank_closing r z h)
  where
    go : (t : Bool) → blank_line (drop_run 35 (r ++ z)) ≡ blank_line (drop_run 35 r)
        → blank_line (cond t (drop_run 35 (r ++ z)) (b ∷ (r ++ z))) ≡ blank_line (cond t (drop_run 35 r) (b ∷ r))
    go true ih = ih
    go false ih = blank_line_lem (b ∷ r) z h

blank_free : (z : Bytes) → every blank z ≡ true → isin 35 z ≡ false
unfolding every blank isin
blank_free [] h = refl
blank_free (b ∷ z) h = rw (eqb-true b 32 (and_l (eqb b 32) _ h)) (blank_free z (and_r (eqb b 32) _ h))

pub closes_blanks : (k : ℕ) (e z : Bytes) → every blank z ≡ true → closes_by k (e ++ z) ≡ closes_by k e
unfolding closes_by
closes_blanks k [] z h = free_closes k z (blank_free z h)
closes_blanks k (b ∷ e) z h = rw (blank_head e z h, blank_closing e z h, closes_blanks k e z h)
