-- Code spans: what `push_code_text` appends is a span whose content is the code.
use Rattle.std.specs.Prelude.{ℕ, zero, suc, ◌+◌, ◌-◌, ◌≤◌, ◌<◌, max, ◌≡◌, Bool, not, ◌&&◌, ◌||◌, length}
use Rattle.std.proofs.Common.{arith, sym, ◌∙◌, true≢false, length-append, eqb-true, eq-eqb, ne_eqb}
use Rattle.std.proofs.Math.Path.{refl, ap}
use Rattle.std.proofs.Math.Bool.{true, false, cond, and-true}
use mathlib.Core.List.{[], ◌∷◌, ◌++◌, append-nil, append_assoc}
use Rattle.std.proofs.Math.Option.{some}
use Rattle.std.proofs.Math.Dec.{eqb}
use Rattle.std.proofs.Math.ListN.{replicate}
use Rattle.std.proofs.Math.Seq.{take-append_seam}
use Rattle.spec.specs.Bytes.{Bytes, ascii, null, same, isin, every, starts_with, ends_with, blank}
use Rattle.spec.specs.Out.{keep, push, and_then, beside}
use Rattle.spec.specs.Md.Elements.Code as writer
use Rattle.spec.specs.Md.Elements.Code.{longest_run, max_backtick_run, backticks, needs_space, push_code_text}
use Rattle.spec.specs.Reading.Lines.{head_is, ends_line}
use Rattle.spec.specs.Pieces.CodeSpans.{preceded, up_to, unbroken, inner, stripped, content, code_span}
use Rattle.spec.proofs.Tests.{and_l, and_r, or_l, or_r, apart, every_app, every_front, every_imp}
use Rattle.recovery.proofs.Fences.{ends_more, run_front, drop_front}
use Rattle.recovery.proofs.Written.Ends.{ends_by, ends_not, last_not, last_none}

-- ---- the closing backtick string

-- how many backticks end x, where k stand before it
unfoldable last_run : ℕ → Bytes → ℕ
last_run k [] = k
last_run k (b ∷ x) = last_run (cond (eqb b 96) (suc k) 0) x

grown : (k : ℕ) (y : Bytes) → replicate k 96 ++ (96 ∷ y) ≡ replicate (suc k) 96 ++ y
grown zero y = refl
grown (suc k) y = ap (λ (z : Bytes). 96 ∷ z) (grown k y)

up_end : (n : ℕ) (r : Bytes) → head_is 96 r ≡ false → up_to n n r ≡ some ([], r)
unfolding up_to head_is
up_end n [] h = rw (eq-eqb n n refl)
up_end n (b ∷ r) h = rw (h, eq-eqb n n refl)

up_closing : (n j i : ℕ) (r : Bytes) → head_is 96 r ≡ false → j + i ≡ n → up_to n j (replicate i 96 ++ r) ≡ some ([], r)
unfolding up_to
up_closing n j zero r h e = let z : j ≡ n = omega arith in rw z (up_end n r h)
up_closing n j (suc i) r h e = up_closing n (suc j) i r h (omega arith)

-- behind k backticks, x with shorter runs than n and no backtick at its end goes before the closing string
up_content : (n k : ℕ) (x r : Bytes) → head_is 96 r ≡ false → longest_run k x < n → last_run k x ≡ 0
    → up_to n k (x ++ (replicate n 96 ++ r)) ≡ some (replicate k 96 ++ x, r)
unfolding last_run longest_run up_to preceded
up_content n k [] r h l e = rw e (up_closing n 0 n r h (omega arith))
up_content n k (b ∷ x) r h l e = go (eqb b 96) refl (λ (j : ℕ). up_content n j x r h) l e
  where
    go : (t : Bool) → eqb b 96 ≡ t
        → ((j : ℕ) → longest_run j x < n → last_run j x ≡ 0 → up_to n j (x ++ (replicate n 96 ++ r)) ≡ some (replicate j 96 ++ x, r))
        → cond t (longest_run (suc k) x) (max k (longest_run 0 x)) < n → last_run (cond t (suc k) 0) x ≡ 0
        → up_to n k (b ∷ (x ++ (replicate n 96 ++ r))) ≡ some (replicate k 96 ++ (b ∷ x), r)
    go true q f l e = rw (q, f (suc k) l e, eqb-true b 96 q, grown k x)
    go false q f l e =
        let z : eqb k n ≡ false = ne_eqb k n (λ z. omega arith) in
        rw (q, z, f 0 (omega arith) e, append_assoc (replicate k 96) (b ∷ []) x)

-- ---- the content

-- a byte that ends no line
unfoldable pub unbreaking : ℕ → Bool
unbreaking b = not (isin b (10 ∷ 13 ∷ []))

unbroken_same : (s : Bytes) → every unbreaking s ≡ true → unbroken s ≡ s
unfolding unbroken every ends_line
unbroken_same [] h = refl
unbroken_same (b ∷ s) h =
    rw (
      apart unbreaking b 10 (and_l (unbreaking b) _ h) (unfold unbreaking isin in refl),
      apart unbreaking b 13 (and_l (unbreaking b) _ h) (unfold unbreaking isin in refl),
      unbroken_same s (and_r (unbreaking b) _ h),
    )

-- a text of blanks wants no blank round it
blanks_alone : (code : Bytes) → every blank code ≡ true → needs_space code ≡ false
unfolding needs_space every starts_with same
blanks_alone [] h = unfold ends_with in refl
blanks_alone (b ∷ s) h =
    let black : every (λ c. not (eqb c 96)) (b ∷ s) ≡ true =
    every_imp blank (λ c. not (eqb c 96)) (b ∷ s) (λ c q. ap not (apart blank c 96 q (unfold blank in refl))) h in
    rw (
      apart blank b 96 (and_l (blank b) _ h) (unfold blank in refl),
      last_not [] 96 (b ∷ s) (last_none (λ c. eqb c 96) (b ∷ s) black (unfold null in refl)),
      h,
    )
    (unfold blank in go (eqb b 32) (ends_with (ascii " ") (b ∷ s)))
  where
    go : (t u : Bool) → (((t && true) && u) && false) ≡ false
    go true true = refl
    go true false = refl
    go false u = refl

wanted_solid : (code : Bytes) → needs_space code ≡ true → every blank code ≡ false
wanted_solid code h = go (every blank code) refl
  where
    go : (t : Bool) → every blank code ≡ t → t ≡ false
    go true e = absurd (true≢false (sym h ∙ blanks_alone code e))
    go false e = refl

pub inner_same : (o c : ℕ) (x : Bytes) → inner (o ∷ (x ++ (c ∷ []))) ≡ x
unfolding inner
inner_same o c x =
    let n : length (o ∷ (x ++ (c ∷ []))) - 2 ≡ length x = rw (length-append x (c ∷ [])) (omega arith) in
    rw n (take-append_seam x (c ∷ []))

stripped_spaced : (code : Bytes) → every blank code ≡ false → stripped (32 ∷ (code ++ (32 ∷ []))) ≡ code
unfolding stripped starts_with same
stripped_spaced code h =
    let e : ends_with (ascii " ") (32 ∷ (code ++ (32 ∷ []))) ≡ true = ends_by (ascii " ") (32 ∷ code) (32 ∷ []) refl in
    let v : every blank (32 ∷ (code ++ (32 ∷ []))) ≡ false = unfold every blank in every_front blank code (32 ∷ []) h in
    rw (e, v) (inner_same 32 32 code)

stripped_same : (code : Bytes) → needs_space code ≡ false → stripped code ≡ code
unfolding stripped needs_space
stripped_same code h =
    go (starts_with (ascii " ") code) (ends_with (ascii " ") code) (every blank code)
    (or_r (starts_with (ascii "`") code || ends_with (ascii "`") code) _ h)
  where
    go : (t u v : Bool) → ((t && u) && not v) ≡ false → cond (t && (u && not v)) (inner code) code ≡ code
    go true true true e = refl
    go true true false e = absurd (true≢false e)
    go true false v e = refl
    go false u v e = refl

-- ---- its runs

longest_blank : (k : ℕ) (s : Bytes) → longest_run k (s ++ (32 ∷ [])) ≡ longest_run k s
unfolding longest_run
longest_blank k [] = omega arith
longest_blank k (b ∷ s) = go (eqb b 96) (longest_blank (suc k) s) (longest_blank 0 s)
  where
    go : (t : Bool) → longest_run (suc k) (s ++ (32 ∷ [])) ≡ longest_run (suc k) s → longest_run 0 (s ++ (32 ∷ [])) ≡ longest_run 0 s
        → cond t (longest_run (suc k) (s ++ (32 ∷ []))) (max k (longest_run 0 (s ++ (32 ∷ []))))
        ≡ cond t (longest_run (suc k) s) (max k (longest_run 0 s))
    go true p q = p
    go false p q = rw q

last_blank : (k : ℕ) (s : Bytes) → last_run k (s ++ (32 ∷ [])) ≡ 0
unfolding last_run
last_blank k [] = refl
last_blank k (b ∷ s) = last_blank (cond (eqb b 96) (suc k) 0) s

last_none_run : (k b : ℕ) (s : Bytes) → ends_with (ascii "`") (b ∷ s) ≡ false → last_run k (b ∷ s) ≡ 0
unfolding last_run
last_none_run k b [] h = go (eqb b 96) (unfold ends_with same in h)
  where
    go : (t : Bool) → (t && true) ≡ false → cond t (suc k) 0 ≡ 0
    go true e = absurd (true≢false e)
    go false e = refl
last_none_run k b (c ∷ s) h = last_none_run (cond (eqb b 96) (suc k) 0) c s (sym (ends_more 96 b c s) ∙ h)

-- ---- the span

head_app : (c : ℕ) (x y : Bytes) → null x ≡ false → head_is c x ≡ false → head_is c (x ++ y) ≡ false
unfolding null head_is
head_app c [] y n h = absurd (true≢false n)
head_app c (b ∷ x) y n h = h

span_read : (n : ℕ) (x r : Bytes) → null x ≡ false → head_is 96 x ≡ false → longest_run 0 x ≤ n → last_run 0 x ≡ 0
    → every unbreaking x ≡ true → head_is 96 r ≡ false
    → code_span (replicate (suc n) 96 ++ (x ++ (replicate (suc n) 96 ++ r))) ≡ some (stripped x, r)
unfolding code_span content
span_read n x r i h l e u k =
    let z : head_is 96 (x ++ (replicate (suc n) 96 ++ r)) ≡ false = head_app 96 x _ i h in
    let f : head_is 96 (replicate (suc n) 96 ++ (x ++ (replicate (suc n) 96 ++ r))) ≡ true = unfold head_is in refl in
    rw (f, run_front 96 (suc n) _ z, drop_front 96 (suc n) _ z, up_content (suc n) 0 x r k (omega arith) e, unbroken_same x u)

first_black : (code : Bytes) → needs_space code ≡ false → head_is 96 code ≡ false
unfolding needs_space starts_with same head_is
first_black [] h = refl
first_black (b ∷ s) h =
    or_l (eqb b 96) _ (rw and-true at (or_l ((eqb b 96 && true) || ends_with (ascii "`") (b ∷ s)) _ h))

last_black : (code : Bytes) → null code ≡ false → needs_space code ≡ false → last_run 0 code ≡ 0
unfolding needs_space null
last_black [] n h = absurd (true≢false n)
last_black (b ∷ s) n h =
    last_none_run 0 b s
    (or_r (starts_with (ascii "`") (b ∷ s)) _ (or_l (starts_with (ascii "`") (b ∷ s) || ends_with (ascii "`") (b ∷ s)) _ h))

-- the backtick strings, and the blanks that the code wants
unfoldable pub span_of : Bytes → Bytes
span_of code =
    let fence = backticks (suc (max_backtick_run code)) in
    let space = cond (needs_space code) (ascii " ") [] in
    fence ++ (space ++ (code ++ (space ++ fence)))

-- 6.1: read from its first backtick, it is a span whose content is the code, for every code without line ends; and nothing but what
-- stands behind it is left, unless that begins with a backtick
pub span_of_lem : (code r : Bytes) → null code ≡ false → every unbreaking code ≡ true → head_is 96 r ≡ false
    → code_span (span_of code ++ r) ≡ some (code, r)
unfolding span_of backticks max_backtick_run
span_of_lem code r n u k = go (needs_space code) refl
  where
    go : (t : Bool) → needs_space code ≡ t
        → code_span ((replicate (suc (longest_run 0 code)) 96
        ++ (cond t (ascii " ") [] ++ (code ++ (cond t (ascii " ") [] ++ replicate (suc (longest_run 0 code)) 96)))) ++ r)
        ≡ some (code, r)
    go true e =
        let f : Bytes = replicate (suc (longest_run 0 code)) 96 in
        let x : Bytes = 32 ∷ (code ++ (32 ∷ [])) in
        let a : (f ++ (32 ∷ (code ++ (32 ∷ f)))) ++ r ≡ f ++ (x ++ (f ++ r)) = simp append_assoc in
        let v : every unbreaking x ≡ true = unfold every unbreaking isin in every_app unbreaking code (32 ∷ []) u refl in
        let l : longest_run 0 x ≤ longest_run 0 code = unfold longest_run in rw (longest_blank 0 code) (omega arith) in
        let m : last_run 0 x ≡ 0 = unfold last_run in last_blank 0 code in
        ap code_span a
        ∙ (span_read (longest_run 0 code) x r (unfold null in refl) (unfold head_is in refl) l m v k
        ∙ ap (λ (c : Bytes). some (c, r)) (stripped_spaced code (wanted_solid code e)))
    go false e =
        let f : Bytes = replicate (suc (longest_run 0 code)) 96 in
        let a : (f ++ (code ++ f)) ++ r ≡ f ++ (code ++ (f ++ r)) = simp append_assoc in
        ap code_span a
        ∙ (span_read (longest_run 0 code) code r n (first_black code e) (omega arith) (last_black code n e) u k
        ∙ ap (λ (c : Bytes). some (c, r)) (stripped_same code e))

-- behind a backtick stands a blank first
unfoldable pub apart_behind : Bytes → Bytes
apart_behind t = t ++ cond (ends_with (ascii "`") t) (ascii " ") []

-- so that the first backtick of the span begins a backtick string
pub apart_behind_lem : (t : Bytes) → ends_with (ascii "`") (apart_behind t) ≡ false
unfolding apart_behind
apart_behind_lem t = go (ends_with (ascii "`") t) refl
  where
    go : (u : Bool) → ends_with (ascii "`") t ≡ u → ends_with (ascii "`") (t ++ cond u (ascii " ") []) ≡ false
    go true e = ends_not [] 96 t 32 refl
    go false e = rw (append-nil t) e

-- what `push_code_text` appends: nothing for no code, else the span
pub no_code_text : (inBeing : ℕ) (t : Bytes) → (push_code_text inBeing [] t).text ≡ t
unfolding push_code_text null keep
no_code_text inBeing t = refl

pub code_text : (inBeing : ℕ) (code t : Bytes) → null code ≡ false → (push_code_text inBeing code t).text ≡ apart_behind t ++ span_of code
unfolding push_code_text writer.code_span apart_behind span_of push and_then beside
code_text inBeing code t n =
    let e : max_backtick_run code + 1 ≡ suc (max_backtick_run code) = omega arith in
    rw (n, e) (simp append_assoc)
