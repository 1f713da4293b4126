use Prim.Native.Nat.{ℕ, min, ◌+◌, ◌*◌}
use mathlib.Core.Path.{sym, ap, ◌∙◌}
use native.Mathlib.Numerals.{add-one}
use lib.ListN.{drop}
use Rattle.spec.specs.Bytes.{value_from}
use Rattle.lists_links.proofs.ListNumbers.{value_on, value_end, ten, ten_most}
use native.Mathlib.Omega.{arith}
use Rattle.lists_links.proofs.list_number.value_of.Goals as goal

pub overflow_mul-n : goal.overflow_mul-n
overflow_mul-n c =
    omega (arith, ten_most c.loop-b.b-index 9 (omega (arith, c.requires)))

pub loop-b-preserved : goal.loop-b-preserved
loop-b-preserved c =
    let l = c.loop-b in
    let v = c.digit_value.ensures in (
      omega arith,
      l.invariant.1 ∙ value_on c.args.digits.now l.n l.b-index c.loop-b-test.true ∙ ap (λ (d : ℕ). value_from (l.n * 10 + d) (drop (l.b-index + 1) c.args.digits.now)) (sym v.0),
      omega (arith, ap ten (add-one l.b-index), l.invariant.2, v.1),
    )

pub returns : goal.returns
returns c =
    rw c.min.ensures (ap (λ (k : ℕ). min k 999999999) (sym (c.loop-b.invariant.1 ∙ value_end c.args.digits.now c.loop-b.n c.loop-b.b-index c.loop-b-test.false)))
