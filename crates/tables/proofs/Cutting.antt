-- Texts cut at their lengths, and the cells of lines.
use Prim.Native.Nat.{ℕ, ◌+◌, ◌-◌, ◌*◌, ◌≤◌, max}
use native.Mathlib.Omega.{arith}
use mathlib.Core.Path.{◌≡◌, refl, ap, sym, ◌∙◌}
use mathlib.Core.List.{List, [], ◌∷◌, ◌++◌, append_assoc}
use lib.ListN.{length, take, drop, replicate, length-append, length-drop, length-replicate}
use lib.Seq.{length-take-le, drop-drop}
use Rattle.spec.specs.Bytes.{Bytes, null}
use Rattle.spec.specs.Md.Elements.Table.{concat}
use Rattle.tables.specs.Puts.{bar, bars, bar_line, bar_lines}
use Rattle.tables.specs.Spans.{filled, sum, zeros, cuts, cut_rows, unders, marks, width, table_bytes}
use Rattle.tables.proofs.Putting.{length_bar, bars_both, length_bars_bytes}

pub cuts_length : (l : List ℕ) (s : Bytes) → sum l ≤ length s → length (bars (cuts l s)) ≡ sum l + 3 * length l
unfolding sum cuts bars
cuts_length [] s h = refl
cuts_length (n ∷ l) s h =
    omega
    (arith, length-append (bar (take n s)) (bars (cuts l (drop n s))), length_bar (take n s), length-take-le n s (omega arith), cuts_length l (drop n s) (omega (arith, length-drop n s)))

pub unders_length : (l : List ℕ) → length (bars (unders l)) ≡ sum l + zeros l + 3 * length l
unfolding sum zeros unders bars
unders_length [] = refl
unders_length (n ∷ l) =
    omega
    (arith, length-append (bar (replicate (max n 1) 45)) (bars (unders l)), length_bar (replicate (max n 1) 45), length-replicate {A = ℕ} (max n 1) 45, unders_length l)

-- the first of the lengths
module _ {l m : List ℕ} {n : ℕ} (e : l ≡ n ∷ m) where
  pub cuts_first : (at : ℕ) (d : Bytes) → bars (cuts l (drop at d)) ≡ bar (take n (drop at d)) ++ bars (cuts m (drop (at + n) d))
  unfolding cuts bars
  cuts_first at d = ap (λ (z : List ℕ). bars (cuts z (drop at d))) e ∙ ap (λ (z : Bytes). bar (take n (drop at d)) ++ bars (cuts m z)) (drop-drop n at d)

  pub unders_first : bars (unders l) ≡ bar (replicate (max n 1) 45) ++ bars (unders m)
  unfolding unders bars
  unders_first = ap (λ (z : List ℕ). bars (unders z)) e

pub cuts_none : {l : List ℕ} (s : Bytes) → l ≡ [] → bars (cuts l s) ≡ []
unfolding cuts bars
cuts_none s e = ap (λ (z : List ℕ). bars (cuts z s)) e

pub unders_none : {l : List ℕ} → l ≡ [] → bars (unders l) ≡ []
unfolding unders bars
unders_none e = ap (λ (z : List ℕ). bars (unders z)) e

-- ---- lines

pub line_parts : (xs ys : List Bytes) → (124 ∷ []) ++ (bars xs ++ (bars ys ++ (10 ∷ []))) ≡ bar_line (xs ++ ys)
unfolding bar_line
line_parts xs ys =
    ap (λ (z : Bytes). 124 ∷ z) (sym (append_assoc (bars xs) (bars ys) (10 ∷ [])) ∙ ap (λ (z : Bytes). z ++ (10 ∷ [])) (sym (bars_both xs ys)))

pub length_line : (xs : List Bytes) → length (bar_line xs) ≡ length (bars xs) + 2
unfolding bar_line
length_line xs = omega (arith, length-append (bars xs) (10 ∷ []))

pub sum_both : (l m : List ℕ) → sum (l ++ m) ≡ sum l + sum m
unfolding sum
sum_both [] m = omega arith
sum_both (n ∷ l) m = omega (arith, sum_both l m)

pub lines_length : (ls : List (List ℕ)) (s : Bytes) → sum (concat ls) ≤ length s → length (bar_lines (cut_rows ls s)) ≡ sum (concat ls) + marks ls
unfolding concat cut_rows bar_lines marks sum
lines_length [] s h = refl
lines_length (l ∷ ls) s h =
    omega (
      arith,
      sum_both l (concat ls),
      length-append (bar_line (cuts l s)) (bar_lines (cut_rows ls (drop (sum l) s))),
      length_line (cuts l s),
      cuts_length l s (omega (arith, sum_both l (concat ls))),
      lines_length ls (drop (sum l) s) (omega (arith, sum_both l (concat ls), length-drop (sum l) s)),
    )

-- the first of the rows
module _ {ls ms : List (List ℕ)} {l : List ℕ} (e : ls ≡ l ∷ ms) where
  pub lines_first : (at : ℕ) (d : Bytes) → bar_lines (cut_rows ls (drop at d)) ≡ bar_line (cuts l (drop at d)) ++ bar_lines (cut_rows ms (drop (at + sum l) d))
  unfolding cut_rows bar_lines
  lines_first at d =
      ap (λ (z : List (List ℕ)). bar_lines (cut_rows z (drop at d))) e
      ∙ ap (λ (z : Bytes). bar_line (cuts l (drop at d)) ++ bar_lines (cut_rows ms z)) (drop-drop (sum l) at d)

  pub total_first : sum (concat ls) ≡ sum l + sum (concat ms)
  unfolding concat
  total_first = ap (λ (z : List (List ℕ)). sum (concat z)) e ∙ sum_both l (concat ms)

  pub marks_first : marks ls ≡ 3 * length l + 2 + marks ms
  unfolding marks
  marks_first = ap marks e

  pub width_first : width ls ≡ length l
  unfolding width
  width_first = ap width e

pub lines_none : {ls : List (List ℕ)} (s : Bytes) → ls ≡ [] → bar_lines (cut_rows ls s) ≡ []
unfolding cut_rows bar_lines
lines_none s e = ap (λ (z : List (List ℕ)). bar_lines (cut_rows z s)) e

pub marks_none : {ls : List (List ℕ)} → ls ≡ [] → marks ls ≡ 0
unfolding marks
marks_none e = ap marks e

pub width_none : {ls : List (List ℕ)} → ls ≡ [] → width ls ≡ 0
unfolding width
width_none e = ap width e

pub marks_few : (ls : List (List ℕ)) → marks (filled ls) ≤ 5 * length (concat ls)
unfolding filled null marks concat
marks_few [] = omega arith
marks_few ([] ∷ ls) = marks_few ls
marks_few ((n ∷ l) ∷ ls) = omega (arith, marks_few ls, length-append l (concat ls))

pub width_few : (ls : List (List ℕ)) → width (filled ls) ≤ length (concat ls)
unfolding filled null width concat
width_few [] = omega arith
width_few ([] ∷ ls) = width_few ls
width_few ((n ∷ l) ∷ ls) = omega (arith, length-append l (concat ls))

-- ---- the lines of a table

bars_length : (xs : List Bytes) (b n : ℕ) → length (bar_line (xs ++ replicate n (b ∷ []))) ≡ length (bars xs) + 4 * n + 2
bars_length xs b n =
    omega
    (arith, length_line (xs ++ replicate n (b ∷ [])), ap length (bars_both xs (replicate n (b ∷ []))), length-append (bars xs) (bars (replicate n (b ∷ []))), length_bars_bytes b n)

pub row_put : (l : List ℕ) (s : Bytes) (b n : ℕ) → sum l ≤ length s → length (bar_line (cuts l s ++ replicate n (b ∷ []))) ≡ sum l + 3 * length l + 4 * n + 2
row_put l s b n h = omega (arith, bars_length (cuts l s) b n, cuts_length l s h)

pub rule_put : (l : List ℕ) (b n : ℕ) → length (bar_line (unders l ++ replicate n (b ∷ []))) ≡ sum l + zeros l + 3 * length l + 4 * n + 2
rule_put l b n = omega (arith, bars_length (unders l) b n, unders_length l)

-- t is d with a byte before src, and u has lines before the rows' texts
pub table_is : (l : List ℕ) (ls : List (List ℕ)) (d t u : Bytes) (src bytes blanks : ℕ) → drop src t ≡ drop src d → drop (src + bytes) u ≡ drop (src + bytes) d
    → bytes ≡ sum l → blanks ≡ width ls - length l
    → (((10 ∷ []) ++ bar_line (cuts l (drop src t) ++ replicate blanks (32 ∷ []))) ++ bar_line (unders l ++ replicate blanks (45 ∷ []))) ++ bar_lines (cut_rows ls (drop (src + bytes) u))
    ≡ table_bytes l ls (drop src d)
unfolding table_bytes
table_is l ls d t u src bytes blanks p q e f =
    ap (λ (z : Bytes). ((10 ∷ []) ++ bar_line (cuts l z ++ replicate blanks (32 ∷ []))) ++ bar_line (unders l ++ replicate blanks (45 ∷ [])) ++ bar_lines (cut_rows ls (drop (src + bytes) u))) p
    ∙ ap (λ (z : Bytes). ((10 ∷ []) ++ bar_line (cuts l (drop src d) ++ replicate blanks (32 ∷ []))) ++ bar_line (unders l ++ replicate blanks (45 ∷ [])) ++ bar_lines (cut_rows ls z))
    (q ∙ sym (drop-drop bytes src d) ∙ ap (λ (k : ℕ). drop k (drop src d)) e)
    ∙ ap (λ (z : Bytes). 10 ∷ z) (append_assoc (bar_line (cuts l (drop src d) ++ replicate blanks (32 ∷ []))) (bar_line (unders l ++ replicate blanks (45 ∷ []))) (bar_lines (cut_rows ls (drop (sum l) (drop src d)))))
    ∙ ap
    (λ (k : ℕ).
    10
    ∷ (bar_line (cuts l (drop src d) ++ replicate k (32 ∷ [])) ++ (bar_line (unders l ++ replicate k (45 ∷ [])) ++ bar_lines (cut_rows ls (drop (sum l) (drop src d))))))
    f
