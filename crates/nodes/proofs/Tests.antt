-- Tests on names.
use Prim.Native.Nat.{ℕ, zero, suc, ◌≤◌, ◌<◌}
use native.Mathlib.Omega.{arith}
use mathlib.Core.Path.{◌≡◌, refl, ◌∙◌, sym}
use mathlib.Core.Logic.{⊎_elim}
use mathlib.Core.Bool.{Bool, true, false, ◌&&◌, and-false}
use lib.Dec.{leb}
use borrow.Author.Tests.{lt-leb, le-leb}
use Rattle.spec.specs.Bytes.{isin, every}
use Rattle.spec.specs.Md.Elements.Blocks.{is_md_block}
use Rattle.spec.specs.Md.Elements.List.{is_block_wrapper}
use Rattle.spec.proofs.Order.{le_or_lt}
use Rattle.spec.proofs.Tests.{and_l, and_r, isin_no}

unfoldable agree : Bool → Bool → Bool
agree true true = true
agree true false = false
agree false true = false
agree false false = true

-- p and q are the same on the numbers below m
unfoldable agree_below : (ℕ → Bool) → (ℕ → Bool) → ℕ → Bool
agree_below p q zero = true
agree_below p q (suc m) = agree (p m) (q m) && agree_below p q m

agreed : (x y : Bool) → agree x y ≡ true → x ≡ y
unfolding agree
agreed true true e = refl
agreed true false e = sym e
agreed false true e = e
agreed false false e = refl

below_same : (p q : ℕ → Bool) (m n : ℕ) → n < m → agree_below p q m ≡ true → p n ≡ q n
unfolding agree_below
below_same p q zero n l h = absurd (omega arith)
below_same p q (suc m) n l h =
    ⊎_elim (λ (d : m ≤ n). let e : n ≡ m = omega arith in rw e (agreed (p m) (q m) (and_l _ _ h)))
    (λ (d : n < m). below_same p q m n d (and_r (agree (p m) (q m)) _ h)) (le_or_lt m n)

-- p and q are the same on all numbers, where both are false from m on
all_same : (p q : ℕ → Bool) (m n : ℕ) → agree_below p q m ≡ true → (m ≤ n → p n ≡ false) → (m ≤ n → q n ≡ false) → p n ≡ q n
all_same p q m n h a b =
    ⊎_elim (λ (d : m ≤ n). a d ∙ sym (b d)) (λ (d : n < m). below_same p q m n d h) (le_or_lt m n)

pub md_block_range : (n : ℕ) → (leb 1 n && leb n 15) ≡ is_md_block n
unfolding is_md_block
md_block_range n =
    all_same (λ n. leb 1 n && leb n 15) is_md_block 16 n (unfold agree_below agree isin in refl)
    (λ d. rw (lt-leb n 15 (omega arith), and-false (leb 1 n)))
    (λ d. isin_no (λ x. leb 16 x) n _ (le-leb 16 n d) (unfold every in refl))

pub wrapper_range : (n : ℕ) → (leb 1 n && leb n 3) ≡ is_block_wrapper n
unfolding is_block_wrapper
wrapper_range n =
    all_same (λ n. leb 1 n && leb n 3) is_block_wrapper 4 n (unfold agree_below agree isin in refl)
    (λ d. rw (lt-leb n 3 (omega arith), and-false (leb 1 n)))
    (λ d. isin_no (λ x. leb 4 x) n _ (le-leb 4 n d) (unfold every in refl))
