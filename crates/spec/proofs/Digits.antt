-- How many digits a number has is one more than its logarithm.
use Rattle.std.proofs.Common.{ℕ, zero, suc, ◌+◌, ◌*◌, ◌/◌, ◌^◌, ◌≤◌, ◌<◌, ◌≡◌, arith, length}
use Rattle.spec.specs.Bytes.{decimal}
use Rattle.spec.specs.Decimal.{length_one, length_more}

some_tens : (k : ℕ) → 1 ≤ 10 ^ k
some_tens zero = omega arith
some_tens (suc k) = omega (arith, some_tens k)

pub length_log : (k n : ℕ) → 10 ^ k ≤ n → n < 10 * 10 ^ k → length (decimal n) ≡ k + 1
length_log zero n low high = length_one n high
length_log (suc k) n low high =
    let more : 10 ≤ n = omega (arith, some_tens k) in
    omega (arith, length_more n more, length_log k (n / 10) (omega arith) (omega arith))
