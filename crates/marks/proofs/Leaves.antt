-- Ends of texts: backslashes, markers of emphasis, line breaks in cells, runs of backticks.
use Prim.Native.Nat.{ℕ, zero, suc, ◌+◌, ◌-◌, ◌%◌, ◌≤◌, ◌<◌, max}
use mathlib.Core.Path.{◌≡◌, refl, sym, ap, ◌∙◌}
use mathlib.Core.Bool.{Bool, true, false, cond, not, ◌&&◌, ◌||◌, false≢true, true≢false}
use mathlib.Core.List.{List, [], ◌∷◌, ◌++◌, append-nil}
use native.Mathlib.Omega.{arith}
use native.Mathlib.Numerals.{add-one}
use lib.ListN.{length, take, drop, get_or, drop_of_length-le}
use lib.Seq.{length-take-le, drop-cons}
use lib.Dec.{eqb}
use borrow.Author.Tests.{eq-eqb, ne_eqb, eqb-false}
use Rattle.spec.specs.Bytes.{ascii, isin, same, null, ends_with, one, white, trim_end_matches, trim_ascii_end}
use Rattle.spec.specs.Out.{keep, push, cut, and_then}
use Rattle.spec.specs.Md.TextUtils.{trim_blanks}
use Rattle.spec.specs.Md.Elements.Emphasis.{backslashes, is_exact_marker_end, ends_with_emphasis, drop_end, try_trim_prev_emphasis_marker}
use Rattle.spec.specs.Md.Elements.Table.{ends_with_cell_break, without_breaks}
use Rattle.spec.specs.Md.Elements.Code.{longest_run, filter}
use Rattle.text.proofs.Writing.{push_both}
use Rattle.text.specs.Trimmed.{Trimmed}
use Rattle.marks.specs.Runs.{longest_with, RunsBehind}
use Rattle.marks.specs.declared.code.Runs.{Runs}
use Rattle.text.specs.Writes.{Written}
use Rattle.text.proofs.Spaces.{cut_done}
use Rattle.text.proofs.Reading.{ends_long, trimmed_length}
use Rattle.input.proofs.Rules.{null_length}

pub backslashes_is : (s : List ℕ) (n : ℕ) → Trimmed s n (trim_end_matches (one (λ b. eqb b 92)) s) → length s - n ≡ backslashes s
unfolding backslashes
backslashes_is s n t = ap (λ (k : ℕ). length s - k) (sym (trimmed_length t))

-- ---- a byte alone

pub one_is : (s : List ℕ) (b : ℕ) → 1 ≤ length s → length s < 2 → get_or s 0 0 ≡ b → same s (b ∷ []) ≡ true
unfolding same
one_is [] b h k e = absurd (omega arith)
one_is (c ∷ []) b h k e = rw (eq-eqb c b e)
one_is (c ∷ d ∷ s) b h k e = absurd (omega arith)

pub one_other : (s : List ℕ) (b : ℕ) → (get_or s 0 0 ≡ b → ⊥) → same s (b ∷ []) ≡ false
unfolding same
one_other [] b h = refl
one_other (c ∷ s) b h = rw (ne_eqb c b h)

pub one_none : (s : List ℕ) (b : ℕ) → length s < 1 → same s (b ∷ []) ≡ false
unfolding same
one_none [] b h = refl
one_none (c ∷ s) b h = absurd (omega arith)

pub one_more : (s : List ℕ) (b : ℕ) → 2 ≤ length s → same s (b ∷ []) ≡ false
unfolding same
one_more [] b h = refl
one_more (c ∷ []) b h = absurd (omega arith)
one_more (c ∷ d ∷ s) b h = go (eqb c b)
  where
    go : (t : Bool) → t && false ≡ false
    go true = refl
    go false = refl

-- ---- emphasis

pub exact_not : (tail marker : List ℕ) → ends_with marker tail ≡ false → is_exact_marker_end tail marker ≡ false
unfolding is_exact_marker_end
exact_not tail marker e = rw e

pub exact_is : (tail marker : List ℕ) (a b : Bool) (k : ℕ) → ends_with marker tail ≡ true → a ≡ same marker (42 ∷ []) → b ≡ ends_with (42 ∷ []) (take (length tail - length marker) tail)
    → k ≡ backslashes (take (length tail - length marker) tail) → not (a && b) && eqb (k % 2) 0 ≡ is_exact_marker_end tail marker
unfolding is_exact_marker_end
exact_is tail marker a b k e p q r = rw (p, q, r, e)

pub emphasis_none : (marker acc : List ℕ) → eqb (length marker) 0 || eqb (length acc) 0 ≡ true → ends_with_emphasis marker acc ≡ false
unfolding ends_with_emphasis
emphasis_none marker acc e = rw (null_length marker, null_length acc, e)

module _ (marker acc : List ℕ) (n : ℕ) (a b : Bool) (e : eqb (length marker) 0 || eqb (length acc) 0 ≡ false) (t : Trimmed acc n (trim_end_matches (one white) acc)) (p : a ≡ null (drop n acc))
    (q : b ≡ same (drop n acc) (32 ∷ [])) where
  tested : ends_with_emphasis marker acc ≡ (a || b) && is_exact_marker_end (take n acc) marker
  unfolding ends_with_emphasis trim_ascii_end
  tested =
      let l : length (trim_end_matches (one white) acc) ≡ n = trimmed_length t in
      rw (l, null_length marker, null_length acc, e, sym p, sym q, sym t.is)

  pub emphasis_not : a || b ≡ false → ends_with_emphasis marker acc ≡ false
  emphasis_not f = tested ∙ rw f

  pub emphasis_is : (r : Bool) → a || b ≡ true → r ≡ is_exact_marker_end (take n acc) marker → r ≡ ends_with_emphasis marker acc
  emphasis_is r f g = g ∙ sym (tested ∙ rw f)

-- ---- line breaks in cells

pub cell_not : (s : List ℕ) → ends_with (ascii "<br>") s ≡ false → ends_with_cell_break s ≡ false
unfolding ends_with_cell_break
cell_not s e = rw e

pub cell_is : (s : List ℕ) (k : ℕ) → ends_with (ascii "<br>") s ≡ true → k ≡ backslashes (take (length s - 4) s) → eqb (k % 2) 0 ≡ ends_with_cell_break s
unfolding ends_with_cell_break drop_end
cell_is s k e q = rw (q, e)

pub cell_long : (s : List ℕ) → ends_with_cell_break s ≡ true → 4 ≤ length s
unfolding ends_with_cell_break
cell_long s e = go (ends_with (ascii "<br>") s) refl e
  where
    go : (t : Bool) → ends_with (ascii "<br>") s ≡ t → t && eqb (backslashes (drop_end 4 s) % 2) 0 ≡ true → 4 ≤ length s
    go true q f = ends_long s (ascii "<br>") q
    go false q f = absurd (false≢true f)

pub breaks_end : (s : List ℕ) (left : ℕ) → ends_with_cell_break s ≡ false → without_breaks left s ≡ s
unfolding without_breaks
breaks_end s zero e = refl
breaks_end s (suc k) e = rw e

pub breaks_on : (s : List ℕ) (m left : ℕ) → 0 < left → ends_with_cell_break s ≡ true → Trimmed (take (length s - 4) s) m (trim_blanks (take (length s - 4) s))
    → without_breaks left s ≡ without_breaks (left - 1) (take m (take (length s - 4) s))
unfolding without_breaks drop_end
breaks_on s m zero h e t = absurd (omega arith)
breaks_on s m (suc left) h e t = let q : suc left - 1 ≡ left = omega arith in rw (e, sym t.is, q)

-- ---- runs of backticks

-- a backtick
pub runs_tick : (r : Runs) (b : ℕ) → b ≡ 96 → RunsBehind r (b ∷ []) (record { best = r.best; run = r.run + 1 })
unfolding longest_run
runs_tick r b e =
    record {
      goes = λ rest. rw (eq-eqb b 96 e) (ap (λ (k : ℕ). max r.best (longest_run k rest)) (sym (add-one r.run)));
      small = omega arith;
    }

no_tick : (b : ℕ) (s : List ℕ) → isin 96 (b ∷ s) ≡ false → (eqb b 96 ≡ false) × (isin 96 s ≡ false)
unfolding isin
no_tick b s e = go (eqb 96 b) refl e
  where
    go : (x : Bool) → eqb 96 b ≡ x → (x || isin 96 s) ≡ false → (eqb b 96 ≡ false) × (isin 96 s ≡ false)
    go true q f = absurd (true≢false f)
    go false q f = (ne_eqb b 96 (λ z. eqb-false 96 b q (sym z)), f)

-- bytes other than backticks change nothing where no run stands before them
runs_clean : (s rest : List ℕ) → isin 96 s ≡ false → longest_run 0 (s ++ rest) ≡ longest_run 0 rest
unfolding longest_run
runs_clean [] rest e = refl
runs_clean (b ∷ s) rest e = rw (no_tick b s e).0 (omega (arith, runs_clean s rest (no_tick b s e).1))

-- another byte, and any number of them behind it
runs_other : (best run ended b : ℕ) (s : List ℕ) → ended ≡ max best run → eqb b 96 ≡ false → isin 96 s ≡ false
    → RunsBehind (record { best = best; run = run }) (b ∷ s) (record { best = ended; run = 0 })
unfolding longest_run
runs_other best run ended b s q e f =
    record { goes = λ rest. rw e (omega (arith, q, runs_clean s rest f)); small = omega arith }

pub runs_not_tick : (r : Runs) (ended b : ℕ) → ended ≡ max r.best r.run → (b ≡ 96 → ⊥) → RunsBehind r (b ∷ []) (record { best = ended; run = 0 })
unfolding isin
runs_not_tick r ended b q e = runs_other r.best r.run ended b [] q (ne_eqb b 96 e) refl

-- bytes without a backtick, one at least
pub runs_away : (best run ended : ℕ) (s : List ℕ) → ended ≡ max best run → 0 < length s → isin 96 s ≡ false
    → RunsBehind (record { best = best; run = run }) s (record { best = ended; run = 0 })
runs_away best run ended [] q h e = absurd (omega arith)
runs_away best run ended (b ∷ s) q h e = runs_other best run ended b s q (no_tick b s e).0 (no_tick b s e).1

-- the rest is read
pub runs_all : {a r : Runs} (s rest : List ℕ) → longest_with (record { best = 0; run = 0 }) (s ++ []) ≡ longest_with a (rest ++ []) → RunsBehind a rest r → longest_run 0 s ≡ max r.best r.run
unfolding longest_run
runs_all {a} {r} s rest e p =
    let q : max 0 (longest_run 0 s) ≡ max r.best r.run =
    ap (λ (l : List ℕ). max 0 (longest_run 0 l)) (sym (append-nil s)) ∙ e ∙ p.goes [] in
    omega (arith, q)

-- ---- the marker taken away

pub prev_none : (marker t : List ℕ) → ends_with_emphasis marker t ≡ false → try_trim_prev_emphasis_marker marker t ≡ keep t
unfolding try_trim_prev_emphasis_marker
prev_none marker t e = rw e

pub prev_space : (marker t : List ℕ) → ends_with_emphasis marker t ≡ true → ends_with (32 ∷ []) t ≡ true
    → try_trim_prev_emphasis_marker marker t ≡ and_then (cut (drop_end (length marker + 1)) t) (push (32 ∷ []))
unfolding try_trim_prev_emphasis_marker cut
prev_space marker t e f = rw (e, f)

pub prev_plain : (marker t : List ℕ) → ends_with_emphasis marker t ≡ true → ends_with (32 ∷ []) t ≡ false
    → try_trim_prev_emphasis_marker marker t ≡ and_then (cut (drop_end (length marker + 0)) t) (push [])
unfolding try_trim_prev_emphasis_marker cut
prev_plain marker t e f = rw (e, f)

-- without k bytes at its end
pub short_done : (d : List ℕ) (len : ℕ) → len ≤ length d → (k n : ℕ) → n ≡ len - k → Written (length d) d n (cut (drop_end k) (take len d))
unfolding drop_end
short_done d len h k n e =
    let l : length (take len d) ≡ len = length-take-le len d h in
    cut_done (drop_end k) d len n h (record { within = omega arith; is = ap (λ (j : ℕ). take j (take len d)) (e ∙ ap (λ (j : ℕ). j - k) (sym l)) })

-- ---- bytes that stay

pub filter_turn : (p : ℕ → Bool) (s t : List ℕ) (i : ℕ) (b : Bool) → i < length s → b ≡ p (get_or s i 0)
    → push (filter p (drop i s)) t ≡ and_then (push (cond b (get_or s i 0 ∷ []) []) t) (push (filter p (drop (i + 1) s)))
unfolding filter
filter_turn p s t i b h e =
    ap (λ (x : List ℕ). push (filter p x) t) (drop-cons s i 0 h ∙ ap (λ (j : ℕ). get_or s i 0 ∷ drop j s) (sym (add-one i)))
    ∙ ap (λ (x : List ℕ). push x t) (ap (λ (z : Bool). cond z (get_or s i 0 ∷ filter p (drop (i + 1) s)) (filter p (drop (i + 1) s))) (sym e) ∙ go b)
    ∙ push_both (cond b (get_or s i 0 ∷ []) []) (filter p (drop (i + 1) s)) t
  where
    go : (b : Bool) → cond b (get_or s i 0 ∷ filter p (drop (i + 1) s)) (filter p (drop (i + 1) s)) ≡ cond b (get_or s i 0 ∷ []) [] ++ filter p (drop (i + 1) s)
    go true = refl
    go false = refl

pub filter_none : (p : ℕ → Bool) (s t : List ℕ) (i : ℕ) → length s ≤ i → push (filter p (drop i s)) t ≡ push [] t
unfolding filter
filter_none p s t i h = ap (λ (x : List ℕ). push (filter p x) t) (drop_of_length-le s h)
