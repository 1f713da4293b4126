use Prim.Native.Nat.{ℕ, ◌-◌, ◌<◌}
use mathlib.Core.Path.{◌≡◌, sym, ◌∙◌}
use mathlib.Core.Bool.{Bool, false, ◌&&◌, ◌||◌}
use lib.ListN.{length, get_or}
use lib.Dec.{eqb, leb}
use borrow.Author.Tests.{eqb-false, leb-false, not-true}
use native.Mathlib.Nat.{pos_of_ne-zero}
use Rattle.normalized.proofs.Flowing.{bare_flow, inner_flow, inside_of}
use Rattle.text.proofs.Ordinary.{neither, not_white}
use native.Mathlib.Omega.{arith}
use Rattle.normalized.proofs.fast_copy.may_begin.Goals as goal

some : (item : Bool) (m : ℕ) → item || eqb m 0 ≡ false → (item ≡ false) × (0 < m)
some item m e = let q = neither item (eqb m 0) e in (q.0, pos_of_ne-zero (eqb-false m 0 q.1))

pub returns-then-begins_bare : goal.returns-then-begins_bare
returns-then-begins_bare c =
    let a = c.args in
    let b = c.begins_bare.ensures c.if-begins_bare.true in
    λ e v opts only item. bare_flow a.s.now v b.0 b.1 opts a.text.now (λ k. sym only ∙ k)

pub returns : goal.returns
returns c =
    let a = c.args in
    let text = a.text.now in
    let s = a.s.now in
    let m = length text - 1 in
    let b = some a.list_item (length text) c.if-list_item-text.false in
    let q = neither (leb (get_or text m 0) 32) c.has.result c.if-before-has.false in
    λ e v opts only item.
    inner_flow s v (not-true (eqb (length s) 1 && eqb (get_or s 0 0) 32) e) opts text (λ k. sym only ∙ k)
    (inside_of text m (omega (arith, b.1)) (not_white (get_or text m 0) (omega (arith, leb-false (get_or text m 0) 32 q.0))) (sym c.has.ensures ∙ q.1)) (item ∙ b.0)
