-- Fixed text: a fence shields its content byte for byte, and the content reads back with its final LF.
use Rattle.std.specs.Prelude.{ℕ, zero, suc, ◌+◌, ◌≤◌, ◌<◌, max, ◌≡◌, Bool, true, false, cond, List, [], ◌∷◌, ◌++◌, eqb, leb, length, replicate}
use native.Mathlib.Omega.{arith}
use Rattle.std.proofs.Math.Path.{refl}
use Rattle.std.proofs.Common.{sym, ap, ◌∙◌, append-nil, append_assoc, eqb-true, le-leb, eq-eqb}
use Rattle.std.proofs.Math.Bool.{and-false, or-true}
use Rattle.std.proofs.lemmas.Bool.{lt-leb}
use Rattle.spec.specs.Bytes.{Bytes, ascii, null, same, isin, every, ends_with}
use Rattle.spec.specs.Entries.{Entry, fixed}
use Rattle.spec.specs.SheetList.{with_final_lf}
use Rattle.spec.specs.Md.Elements.Code.{longest_run, max_backtick_run}
use Rattle.spec.specs.Reading.Lines.{space_or_tab, blank_line, head_is, drop_while, run, drop_run, column, strip, unindent}
use Rattle.spec.specs.Reading.Starts.{fence_start, fence_by, fence, closing_fence, lead, start_by, start}
use Rattle.spec.specs.Reading.Held.{State, state, no_leaf, fence_leaf, closed, entry_if, add_line, is_raw}
use Rattle.spec.specs.Reading.Step.{kept, all_kept, base, line_by, raw_line, raw_step, step_by, step}
use Rattle.spec.specs.Reading.{read_lines}
use Rattle.spec.proofs.Tests.{apart}
use Rattle.spec.proofs.Order.{one_less}
use Rattle.recovery.proofs.Markers.{solid}
use Rattle.recovery.proofs.Steps.{Reached, step_zero, reached_flat}
use Rattle.recovery.specs.Closed.{fixed_byte, fixed_lines, fence_of, fenced_lines}

-- ---- the lines of a fixed text, each ended

unfoldable pub ended : List Bytes → Bytes
ended [] = []
ended (l ∷ ls) = l ++ (10 ∷ ended ls)

-- one more byte before a text that is not empty
ended_byte : (t : Bool) (b c : ℕ) (s : Bytes) → eqb b 10 ≡ t → ended (fixed_byte t b (fixed_lines (c ∷ s))) ≡ b ∷ ended (fixed_lines (c ∷ s))
unfolding ended fixed_byte fixed_lines
ended_byte true b c s e = ap (λ (n : ℕ). n ∷ ended (fixed_lines (c ∷ s))) (sym (eqb-true b 10 e))
ended_byte false b c s e = go (eqb c 10) (fixed_lines s)
  where
    go : (t : Bool) (ls : List Bytes) → ended (fixed_byte false b (fixed_byte t c ls)) ≡ b ∷ ended (fixed_byte t c ls)
    go true ls = refl
    go false [] = refl
    go false (l ∷ ls) = refl

pub ends_more : (x b c : ℕ) (s : Bytes) → ends_with (x ∷ []) (b ∷ c ∷ s) ≡ ends_with (x ∷ []) (c ∷ s)
unfolding ends_with
ends_more x b c s = rw (one_less (suc (length s)), one_less (length s))

final_more : (b c : ℕ) (s : Bytes) → with_final_lf (b ∷ c ∷ s) ≡ b ∷ with_final_lf (c ∷ s)
unfolding with_final_lf null
final_more b c s = rw (ends_more 10 b c s) (go (ends_with (ascii "\n") (c ∷ s)))
  where
    go : (t : Bool) → cond t (b ∷ c ∷ s) (b ∷ c ∷ (s ++ (10 ∷ []))) ≡ b ∷ cond t (c ∷ s) (c ∷ (s ++ (10 ∷ [])))
    go true = refl
    go false = refl

ended_one : (t : Bool) (b : ℕ) → eqb b 10 ≡ t → ended (fixed_byte t b []) ≡ with_final_lf (b ∷ [])
unfolding ended fixed_byte with_final_lf null ends_with same
ended_one true b e = rw e (ap (λ (n : ℕ). n ∷ []) (sym (eqb-true b 10 e)))
ended_one false b e = rw e

-- document 01: "one not empty gains a final LF if it had none"
pub ended_final : (s : Bytes) → ended (fixed_lines s) ≡ with_final_lf s
unfolding fixed_lines ended
ended_final [] = unfold with_final_lf null in refl
ended_final (b ∷ []) = ended_one (eqb b 10) b refl
ended_final (b ∷ c ∷ s) = ended_byte (eqb b 10) b c s refl ∙ (ap (λ (r : Bytes). b ∷ r) (ended_final (c ∷ s)) ∙ sym (final_more b c s))

-- ---- runs of backticks

-- in no line is a run longer than m
abbrev pub Under : ℕ → List Bytes → Type 0
Under m [] = Unit {0}
Under m (l ∷ ls) = (longest_run 0 l ≤ m) × Under m ls

-- likewise, where n backticks stand before the first line
abbrev pub UnderFrom : ℕ → ℕ → List Bytes → Type 0
UnderFrom n m [] = Unit {0}
UnderFrom n m (l ∷ ls) = (longest_run n l ≤ m) × Under m ls

under_weaker : (m k : ℕ) (ls : List Bytes) → m ≤ k → Under m ls → Under k ls
under_weaker m k [] h u = tt
under_weaker m k (l ∷ ls) h u = (omega arith, under_weaker m k ls h u.1)

pub under_first : (m : ℕ) (ls : List Bytes) → UnderFrom 0 m ls → Under m ls
under_first m [] u = tt
under_first m (l ∷ ls) u = u

pub longest_least : (n : ℕ) (s : Bytes) → n ≤ longest_run n s
unfolding longest_run
longest_least n [] = omega arith
longest_least n (b ∷ s) = go (eqb b 96) (longest_least (suc n) s)
  where
    go : (t : Bool) → suc n ≤ longest_run (suc n) s → n ≤ cond t (longest_run (suc n) s) (max n (longest_run 0 s))
    go true ih = omega arith
    go false ih = omega arith

under_byte : (t l : Bool) (n b : ℕ) (s : Bytes) (ls : List Bytes) → eqb b 96 ≡ t → eqb b 10 ≡ l
    → UnderFrom (suc n) (longest_run (suc n) s) ls → UnderFrom 0 (longest_run 0 s) ls
    → UnderFrom n (cond t (longest_run (suc n) s) (max n (longest_run 0 s))) (fixed_byte l b ls)
unfolding fixed_byte longest_run
under_byte true true n b s ls e g u v = absurd (omega (arith, eqb-true b 96 e, eqb-true b 10 g))
under_byte true false n b s [] e g u v = (rw e (omega (arith, longest_least (suc n) s)), tt)
under_byte true false n b s (l ∷ ls) e g u v = (rw e u.0, u.1)
under_byte false true n b s ls e g u v =
    (omega arith, under_weaker (longest_run 0 s) (max n (longest_run 0 s)) ls (omega arith) (under_first (longest_run 0 s) ls v))
under_byte false false n b s [] e g u v = (rw e (omega arith), tt)
under_byte false false n b s (l ∷ ls) e g u v =
    (rw e (omega arith), under_weaker (longest_run 0 s) (max n (longest_run 0 s)) ls (omega arith) v.1)

-- the lines of a text have no longer runs than the text
pub under_lines : (n : ℕ) (s : Bytes) → UnderFrom n (longest_run n s) (fixed_lines s)
unfolding fixed_lines longest_run
under_lines n [] = tt
under_lines n (b ∷ s) = under_byte (eqb b 96) (eqb b 10) n b s (fixed_lines s) refl refl (under_lines (suc n) s) (under_lines 0 s)

run_longest : (n : ℕ) (l : Bytes) → run 96 l + n ≤ longest_run n l
unfolding run longest_run
run_longest n [] = omega arith
run_longest n (b ∷ l) = go (eqb b 96) (run_longest (suc n) l)
  where
    go : (t : Bool) → run 96 l + suc n ≤ longest_run (suc n) l
        → cond t (suc (run 96 l)) 0 + n ≤ cond t (longest_run (suc n) l) (max n (longest_run 0 l))
    go true ih = omega arith
    go false ih = omega arith

strip_by : (t : Bool) (b : ℕ) (l : Bytes) → space_or_tab b ≡ t → run 96 (drop_while space_or_tab l) ≤ longest_run 0 l
    → run 96 (cond t (drop_while space_or_tab l) (b ∷ l)) ≤ longest_run 0 (b ∷ l)
unfolding longest_run space_or_tab
strip_by true b l e ih = rw (apart space_or_tab b 96 e refl) (omega arith)
strip_by false b l e ih = omega (arith, run_longest 0 (b ∷ l))

strip_run : (l : Bytes) → run 96 (strip l) ≤ longest_run 0 l
unfolding strip drop_while
strip_run [] = unfold run longest_run in omega arith
strip_run (b ∷ l) = strip_by (space_or_tab b) b l refl (strip_run l)

-- ---- inside the fence

-- a line with shorter runs does not close it
pub no_close : (n : ℕ) (l : Bytes) → longest_run 0 l < n → closing_fence 96 n (strip l) ≡ false
unfolding closing_fence
no_close n l h = rw (lt-leb n (run 96 (strip l)) (omega (arith, strip_run l)))

pub unindent_zero : (l : Bytes) → unindent 0 0 l ≡ l
unfolding unindent
unindent_zero [] = refl
unindent_zero (b ∷ l) = refl

-- it is added whole
fence_line : (o : List Entry) (n : ℕ) (t l : Bytes) → longest_run 0 l < n
    → step (state o [] (fence_leaf false 96 n 0 t)) l ≡ state o [] (fence_leaf false 96 n 0 (t ++ (l ++ (10 ∷ []))))
unfolding step step_by is_raw all_kept raw_step raw_line base add_line
fence_line o n t l h =
    rw (or-true (blank_line l), no_close n l h, and-false (leb (column 0 l) 3), unindent_zero l)

fence_lines : (o : List Entry) (m n : ℕ) (t : Bytes) (ls more : List Bytes) → Under m ls → m < n
    → read_lines (state o [] (fence_leaf false 96 n 0 t)) (ls ++ more)
    ≡ read_lines (state o [] (fence_leaf false 96 n 0 (t ++ ended ls))) more
unfolding read_lines ended
fence_lines o m n t [] more u h = rw (append-nil t)
fence_lines o m n t (l ∷ ls) more u h =
    ap (λ (s : State). read_lines s (ls ++ more)) (fence_line o n t l (omega arith))
    ∙ (fence_lines o m n (t ++ (l ++ (10 ∷ []))) ls more u.1 h
    ∙ ap (λ (r : Bytes). read_lines (state o [] (fence_leaf false 96 n 0 r)) more)
    (append_assoc t (l ++ (10 ∷ [])) (ended ls) ∙ ap (λ (r : Bytes). t ++ r) (append_assoc l (10 ∷ []) (ended ls))))

-- ---- the fence

-- a run of the byte c before what begins with another
pub run_front : (c k : ℕ) (r : Bytes) → head_is c r ≡ false → run c (replicate k c ++ r) ≡ k
unfolding run head_is
run_front c zero [] h = refl
run_front c zero (b ∷ r) h = rw h
run_front c (suc k) r h = rw (eq-eqb c c refl, run_front c k r h)

pub drop_front : (c k : ℕ) (r : Bytes) → head_is c r ≡ false → drop_run c (replicate k c ++ r) ≡ r
unfolding drop_run head_is
drop_front c zero [] h = refl
drop_front c zero (b ∷ r) h = rw h
drop_front c (suc k) r h = rw (eq-eqb c c refl) (drop_front c k r h)

pub run_fence : (k : ℕ) → run 96 (replicate k 96) ≡ k
run_fence k = rw append-nil at (run_front 96 k [] (unfold head_is in refl))

pub drop_fence : (k : ℕ) → drop_run 96 (replicate k 96) ≡ []
drop_fence k = rw append-nil at (drop_front 96 k [] (unfold head_is in refl))

start_fence : (k : ℕ) → 2 ≤ k → start (replicate (suc k) 96) ≡ fence_start 96 (suc k) []
unfolding start start_by lead fence fence_by isin
start_fence k h = rw (run_fence k, drop_fence k, le-leb 3 (suc k) (omega arith))

fence_solid : (k : ℕ) → solid (replicate (suc k) 96) ≡ true
unfolding solid space_or_tab
fence_solid k = refl

fence_closes : (o : List Entry) (k : ℕ) (t : Bytes)
    → step (state o [] (fence_leaf false 96 (suc k) 0 t)) (replicate (suc k) 96) ≡ state (o ++ (fixed t ∷ [])) [] no_leaf
unfolding step step_by is_raw all_kept raw_step raw_line base closed entry_if closing_fence blank_line every space_or_tab column strip drop_while run drop_run
fence_closes o k t = rw (run_fence k, drop_fence k, le-leb (suc k) (suc k) (omega arith))

-- a fixed text between its fences is read as it is
pub read_fixed : (o : List Entry) (op : List ℕ) (s : Bytes) → kept 0 op ≡ []
    → Reached (o ++ (fixed (with_final_lf s) ∷ [])) (read_lines (state o op no_leaf) (fenced_lines s))
unfolding fenced_lines fence_of read_lines line_by null closed blank_line every base max_backtick_run
read_fixed o op s h =
    let k : ℕ = max (longest_run 0 s) 2 in
    let f : Bytes = replicate (suc k) 96 in
    let u : Under (longest_run 0 s) (fixed_lines s) = under_first (longest_run 0 s) (fixed_lines s) (under_lines 0 s) in
    let opened : step (state o op no_leaf) f ≡ state o [] (fence_leaf false 96 (suc k) 0 []) =
    step_zero o op f h (fence_solid k) ∙ rw (start_fence k (omega arith), append-nil o) in
    let inside : read_lines (step (state o op no_leaf) f) (fixed_lines s ++ (f ∷ [])) ≡ state (o ++ (fixed (with_final_lf s) ∷ [])) [] no_leaf =
    ap (λ (q : State). read_lines q (fixed_lines s ++ (f ∷ []))) opened
    ∙ (fence_lines o (longest_run 0 s) (suc k) [] (fixed_lines s) (f ∷ []) u (omega arith)
    ∙ (fence_closes o k (ended (fixed_lines s)) ∙ ap (λ (t : Bytes). state (o ++ (fixed t ∷ [])) [] no_leaf) (ended_final s))) in
    rw inside (reached_flat (o ++ (fixed (with_final_lf s) ∷ [])))
