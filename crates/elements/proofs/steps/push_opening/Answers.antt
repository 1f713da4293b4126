use Prim.Native.Nat.{ℕ}
use mathlib.Core.Path.{◌≡◌, refl}
use mathlib.Core.Bool.{Bool, true, false, cond, ◌||◌}
use mathlib.Core.List.{[]}
use native.Mathlib.Omega.{arith}
use lib.Dec.{ltb}
use borrow.Author.Tests.{ne_eqb, ltb-true}
use Rattle.spec.specs.Bytes.{Bytes}
use Rattle.spec.specs.Out.{push}
use Rattle.spec.specs.Md.Heading.{md_prefix}
use Rattle.text.proofs.Texts.{as_step, pushes_nothing}
use Rattle.elements.proofs.steps.push_opening.Goals as goal

-- the headings have the numbers from 5 to 10, and the rule has 15
no-prefix : (body : Bool) (name : ℕ) → body || (ltb name 5 || ltb 15 name) ≡ true → cond {A = Bytes} body [] (md_prefix name) ≡ []
unfolding md_prefix
no-prefix true name h = refl
no-prefix false name h = on (ltb name 5) refl h
  where
    on : (t : Bool) → ltb name 5 ≡ t → t || ltb 15 name ≡ true → md_prefix name ≡ []
    on true e q =
        let l = ltb-true name 5 e in
        rw (ne_eqb name 5 (λ z. omega arith), ne_eqb name 6 (λ z. omega arith), ne_eqb name 7 (λ z. omega arith), ne_eqb name 8 (λ z. omega arith), ne_eqb name 9 (λ z. omega arith), ne_eqb name 10 (λ z. omega arith), ne_eqb name 15 (λ z. omega arith)) refl
    on false e q =
        let l = ltb-true 15 name q in
        rw (ne_eqb name 5 (λ z. omega arith), ne_eqb name 6 (λ z. omega arith), ne_eqb name 7 (λ z. omega arith), ne_eqb name 8 (λ z. omega arith), ne_eqb name 9 (λ z. omega arith), ne_eqb name 10 (λ z. omega arith), ne_eqb name 15 (λ z. omega arith)) refl

pub returns-then-opts-name : goal.returns-then-opts-name
returns-then-opts-name c =
    as_step {f = push []} (rw (no-prefix c.args.opts.link_body c.args.name c.if-opts-name.true) refl) (pushes_nothing _)
