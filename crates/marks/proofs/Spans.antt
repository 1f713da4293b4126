-- Code spans and fenced blocks around a temporary that was lifted to the end of the room.
use Prim.Native.Nat.{ℕ, suc, ◌+◌, ◌≤◌, max}
use mathlib.Core.Path.{◌≡◌, refl, sym, ap, subst, subst₂, ◌∙◌}
use mathlib.Core.Bool.{Bool, true, false, cond, not, ◌||◌}
use mathlib.Core.List.{List, [], ◌∷◌, ◌++◌, append_assoc}
use native.Mathlib.Omega.{arith}
use lib.Dec.{eqb}
use lib.ListN.{length, take, drop, length-drop}
use lib.Seq.{length-take-le}
use Rattle.spec.specs.Bytes.{Bytes, ascii, null, ends_with}
use Rattle.spec.specs.Out.{Out, and_then, keep, push, beside}
use Rattle.spec.specs.Md.Elements.Code.{backticks, needs_space, code_span, fenced_block, push_code_text, max_backtick_run, longest_run}
use Rattle.text.proofs.Reading.{null_some}
use Rattle.input.proofs.Rules.{null_length}
use Rattle.text.proofs.Writing.{same_out, push_both}

not_wanted : (b : Bool) (x : List ℕ) → cond b [] x ≡ cond (not b) x []
not_wanted true x = refl
not_wanted false x = refl

-- a line break, but where one is there
pub line_unless : (b c : Bool) (y t : List ℕ) → c ≡ b → push (cond b [] (ascii "\n") ++ y) t ≡ push (cond (not c) (ascii "\n") [] ++ y) t
line_unless b c y t e = ap (λ (z : Bool). push (cond z [] (ascii "\n") ++ y) t) (sym e) ∙ ap (λ (x : List ℕ). push (x ++ y) t) (not_wanted c (ascii "\n"))

pub no_code : (k : ℕ) (d : List ℕ) (from n : ℕ) (t : List ℕ) → n ≡ 0 → push_code_text k (take n (drop from d)) t ≡ keep t
unfolding push_code_text null
no_code k d from n t e = ap (λ (j : ℕ). cond (null (take j (drop from d))) (keep t) (code_span k (take j (drop from d)) t)) e

pub some_code : (k : ℕ) (d : List ℕ) (from n : ℕ) (t : List ℕ) → from + n ≤ length d → (n ≡ 0 → ⊥) → push_code_text k (take n (drop from d)) t ≡ code_span k (take n (drop from d)) t
unfolding push_code_text
some_code k d from n t h e = rw (null_some (take n (drop from d)) (λ q. e (omega (arith, length-take-le n (drop from d) (omega (arith, length-drop from d))))))

run_short : (n : ℕ) (s : Bytes) → longest_run n s ≤ n + length s
unfolding longest_run
run_short n [] = omega arith
run_short n (b ∷ s) = go (eqb b 96) (run_short (suc n) s) (run_short 0 s)
  where
    go : (t : Bool) → longest_run (suc n) s ≤ suc n + length s → longest_run 0 s ≤ 0 + length s → cond t (longest_run (suc n) s) (max n (longest_run 0 s)) ≤ n + length (b ∷ s)
    go true h k = omega arith
    go false h k = omega arith

pub run_is_short : {n : ℕ} (s : Bytes) → n ≡ max_backtick_run s → n ≤ length s
unfolding max_backtick_run
run_is_short s e = omega (arith, run_short 0 s)

pub span_is : (k : ℕ) (code t : Bytes) (f : ℕ) (s : Bool) → f ≡ max_backtick_run code + 1 → s ≡ needs_space code
    → code_span k code t
    ≡ and_then (beside k (and_then (push (cond (ends_with (ascii "`") t) (ascii " ") [] ++ (backticks f ++ cond s (ascii " ") [])) t) (push code))) (push (cond s (ascii " ") [] ++ backticks f))
unfolding code_span
span_is k code t f s e g =
    let apart : List ℕ = cond (ends_with (ascii "`") t) (ascii " ") [] in
    let space : List ℕ = cond (needs_space code) (ascii " ") [] in
    let fence : List ℕ = backticks (max_backtick_run code + 1) in
    rw (e, g, sym (push_both (apart ++ (fence ++ space)) code t), append_assoc apart (fence ++ space) code, append_assoc fence space code)

beside_none : (o : Out) → o ≡ beside 0 o
unfolding beside
beside_none o = same_out refl (omega arith)

pub ended_is : {d s : Bytes} {a b : Bool} → s ≡ d → a ≡ eqb (length s) 0 → b ≡ ends_with (ascii "\n") s → (a || b) ≡ (null d || ends_with (ascii "\n") d)
ended_is {d} {s} {a} {b} e p q = subst₂ (λ (x y : Bool). (x || y) ≡ (null d || ends_with (ascii "\n") d)) (sym p) (sym q) (subst (λ (l : Bytes). (eqb (length l) 0 || ends_with (ascii "\n") l) ≡ (null d || ends_with (ascii "\n") d)) (sym e) (ap (λ (x : Bool). x || ends_with (ascii "\n") d) (sym (null_length d))))

pub block_is : (lang content t : Bytes) (begin : Bytes) (f : ℕ) (b : Bool) → f ≡ max (max_backtick_run content) 2 + 1 → b ≡ (null content || ends_with (ascii "\n") content)
    → push (begin ++ fenced_block lang content) t
    ≡ and_then (beside 0 (and_then (push (begin ++ (backticks f ++ (lang ++ ascii "\n"))) t) (push content))) (push (cond b [] (ascii "\n") ++ (backticks f ++ ascii "\n")))
unfolding fenced_block
block_is lang content t begin f b e g =
    let fence : Bytes = backticks f in
    let before : Bytes = begin ++ (fence ++ (lang ++ ascii "\n")) in
    let rest : Bytes = cond b [] (ascii "\n") ++ (fence ++ ascii "\n") in
    let parts : begin ++ (fence ++ (lang ++ (ascii "\n" ++ (content ++ rest)))) ≡ (before ++ content) ++ rest =
    sym
    (append_assoc before content rest ∙ append_assoc begin (fence ++ (lang ++ ascii "\n")) (content ++ rest)
    ∙ ap (λ (l : Bytes). begin ++ l) (append_assoc fence (lang ++ ascii "\n") (content ++ rest) ∙ ap (λ (l : Bytes). fence ++ l) (append_assoc lang (ascii "\n") (content ++ rest)))) in
    subst₂ (λ (j : ℕ) (z : Bool). push (begin ++ (backticks j ++ (lang ++ (ascii "\n" ++ (content ++ (cond z [] (ascii "\n") ++ (backticks j ++ ascii "\n"))))))) t ≡ and_then (beside 0 (and_then (push before t) (push content))) (push rest)) e g
    (ap (λ (l : Bytes). push l t) parts ∙ push_both (before ++ content) rest t ∙ ap (λ (o : Out). and_then o (push rest)) (push_both before content t ∙ beside_none (and_then (push before t) (push content))))
