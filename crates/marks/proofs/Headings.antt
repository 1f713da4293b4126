-- Headings.
use Prim.Native.Nat.{ℕ, ◌≤◌}
use mathlib.Core.Path.{◌≡◌, sym, ◌∙◌}
use mathlib.Core.Bool.{Bool, cond, ◌&&◌}
use mathlib.Core.List.{List, [], ◌∷◌, ◌++◌}
use native.Mathlib.Omega.{arith}
use lib.ListN.{length, take, drop}
use lib.Seq.{length-take-le, take-take}
use lib.Dec.{eqb, ltb}
use Rattle.spec.specs.Bytes.{ends_with, one, trim_end, trim_end_matches}
use Rattle.spec.specs.Out.{keep, replace}
use Rattle.spec.specs.Md.Heading.{escape_closing_hashes}
use Rattle.text.specs.Trimmed.{Trimmed}

module _ (s : List ℕ) (n stem : ℕ) (t : Trimmed s n (trim_end s)) (u : Trimmed (take n s) stem (trim_end_matches (one (λ b. eqb b 35)) (take n s))) where
  -- whether a run of # closes the heading
  pub closing : (a e : Bool) → a ≡ ltb stem n → e ≡ ends_with (32 ∷ []) (take stem s) → escape_closing_hashes s ≡ cond (a && e) (replace (λ t. take stem t ++ (92 ∷ drop stem t)) s) (keep s)
  unfolding escape_closing_hashes
  closing a e p q =
      let k : length (take n s) ≡ n = length-take-le n s t.within in
      let w : stem ≤ n = omega (arith, u.within) in
      let c : trim_end_matches (one (λ b. eqb b 35)) (take n s) ≡ take stem s = sym u.is ∙ take-take stem n s w in
      let m : length (take stem s) ≡ stem = length-take-le stem s (omega (arith, t.within)) in
      rw (sym t.is, c, k, m, sym q, sym p)
