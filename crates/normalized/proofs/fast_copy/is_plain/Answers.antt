use Prim.Native.Nat.{ℕ, ◌<◌}
use mathlib.Core.Path.{◌≡◌, refl, sym, ◌∙◌}
use mathlib.Core.Bool.{Bool, true, false, cond, not, ◌&&◌, ◌||◌, false≢true, and-eq-true_iff}
use lib.Dec.{eqb, leb, ltb}
use native.Mathlib.Omega.{arith}
use borrow.Author.Tests.{leb-false}
use Rattle.spec.specs.Bytes.{isin, white}
use Rattle.text.specs.Flow.{kept}
use Rattle.text.proofs.Ordinary.{not_white}
use Rattle.input.proofs.Sequences.{below, below_at}
use Rattle.normalized.proofs.fast_copy.is_plain.Goals as goal

-- what is tested of b; `low` says that a byte up to the blank is next
abbrev tested : Bool → ℕ → Bool → Bool
tested escape b low =
    not (ltb b 14 || ((eqb b 32 && low) || (escape && (eqb b 33 || (eqb b 42 || (eqb b 60 || ((leb 91 b && ltb b 97) || (leb 124 b && leb b 126))))))))

abbrev right : Bool → ℕ → Bool → Bool
right escape b low = cond (tested escape b low) (kept escape b || (eqb b 32 && not low)) true

abbrev both : Bool → ℕ → Bool
both escape b = right escape b true && right escape b false

all_right : (escape : Bool) → below (both escape) 256 ≡ true
unfolding below white isin
all_right true = refl
all_right false = refl

law : (escape : Bool) (b : ℕ) → b < 256 → (low : Bool) → tested escape b low ≡ true → kept escape b || (eqb b 32 && not low) ≡ true
law escape b h low = on ((and-eq-true_iff (right escape b true) (right escape b false)).0 (below_at (both escape) 256 b (all_right escape) h)) low
  where
    chosen : (x y : Bool) → cond x y true ≡ true → x ≡ true → y ≡ true
    chosen true y e q = e
    chosen false y e q = absurd (false≢true q)

    on : (right escape b true ≡ true) × (right escape b false ≡ true) → (low : Bool) → tested escape b low ≡ true → kept escape b || (eqb b 32 && not low) ≡ true
    on r true = chosen (tested escape b true) (kept escape b || (eqb b 32 && not true)) r.0
    on r false = chosen (tested escape b false) (kept escape b || (eqb b 32 && not false)) r.1

-- a white byte is low
white_low : (b : ℕ) → white b ≡ true → leb b 32 ≡ true
white_low b w = on (leb b 32) refl
  where
    on : (t : Bool) → leb b 32 ≡ t → t ≡ true
    on true e = refl
    on false e = absurd (false≢true (sym (not_white b (omega (arith, leb-false b 32 e))) ∙ w))

-- less is asked where fewer bytes are meant
weaker : (o e low w : Bool) → (w ≡ true → low ≡ true) → o || (e && not low) ≡ true → o || (e && not w) ≡ true
weaker true e low w f h = refl
weaker false false low w f h = absurd (false≢true h)
weaker false true true w f h = absurd (false≢true h)
weaker false true false true f h = absurd (false≢true (f refl))
weaker false true false false f h = refl

pub returns : goal.returns
returns c =
    let a = c.args in
    λ e. weaker (kept a.escape a.b) (eqb a.b 32) (leb a.next 32) (white a.next) (white_low a.next) (law a.escape a.b c.ranges.b.fits (leb a.next 32) e)
