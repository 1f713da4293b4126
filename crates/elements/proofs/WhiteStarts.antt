-- White_Space at the front of a text.
use Prim.Native.Nat.{ℕ, zero, suc, ◌≤◌}
use native.Mathlib.Omega.{arith}
use mathlib.Core.Path.{◌≡◌, refl, sym}
use mathlib.Core.Bool.{Bool, true, false, cond}
use mathlib.Core.List.{[], ◌∷◌}
use lib.ListN.{length, drop, get_or}
use Rattle.spec.specs.Bytes.{Bytes, same, among, white_space_of, is_white_space, white_width, trim_from}

-- ---- the character that begins s

width_empty : white_width [] ≡ 0
unfolding white_width is_white_space white_space_of among same
width_empty = refl

pub width_one : (s : Bytes) → 1 ≤ length s → is_white_space (get_or s 0 0 ∷ []) ≡ true → 1 ≡ white_width s
unfolding white_width
width_one [] l e = absurd (omega arith)
width_one (a ∷ s) l e = rw e

pub width_two : (s : Bytes) → 2 ≤ length s → is_white_space (get_or s 0 0 ∷ []) ≡ false → is_white_space (get_or s 0 0 ∷ get_or s 1 0 ∷ []) ≡ true → 2 ≡ white_width s
unfolding white_width
width_two [] l e f = absurd (omega arith)
width_two (a ∷ []) l e f = absurd (omega arith)
width_two (a ∷ b ∷ s) l e f = rw (e, f)

pub width_three : (s : Bytes) → 3 ≤ length s → is_white_space (get_or s 0 0 ∷ []) ≡ false → is_white_space (get_or s 0 0 ∷ get_or s 1 0 ∷ []) ≡ false
    → is_white_space (get_or s 0 0 ∷ get_or s 1 0 ∷ get_or s 2 0 ∷ []) ≡ true → 3 ≡ white_width s
unfolding white_width
width_three [] l e f g = absurd (omega arith)
width_three (a ∷ []) l e f g = absurd (omega arith)
width_three (a ∷ b ∷ []) l e f g = absurd (omega arith)
width_three (a ∷ b ∷ c ∷ s) l e f g = rw (e, f, g)

pub width_none : (s : Bytes) → (1 ≤ length s → is_white_space (get_or s 0 0 ∷ []) ≡ false) → (2 ≤ length s → is_white_space (get_or s 0 0 ∷ get_or s 1 0 ∷ []) ≡ false)
    → (3 ≤ length s → is_white_space (get_or s 0 0 ∷ get_or s 1 0 ∷ get_or s 2 0 ∷ []) ≡ false) → 0 ≡ white_width s
unfolding white_width
width_none [] e f g = sym width_empty
width_none (a ∷ []) e f g = rw (e (omega arith))
width_none (a ∷ b ∷ []) e f g = rw (e (omega arith), f (omega arith))
width_none (a ∷ b ∷ c ∷ s) e f g = rw (e (omega arith), f (omega arith), g (omega arith))

-- it stands in s
pub width_fits : (s : Bytes) → white_width s ≤ length s
unfolding white_width
width_fits [] = omega (arith, width_empty)
width_fits (a ∷ []) = go (is_white_space (a ∷ []))
  where
    go : (x : Bool) → cond x 1 (cond x 2 (cond x 3 0)) ≤ 1
    go true = omega arith
    go false = omega arith
width_fits (a ∷ b ∷ []) = go (is_white_space (a ∷ [])) (is_white_space (a ∷ b ∷ []))
  where
    go : (x y : Bool) → cond x 1 (cond y 2 (cond y 3 0)) ≤ 2
    go true y = omega arith
    go false true = omega arith
    go false false = omega arith
width_fits (a ∷ b ∷ c ∷ s) =
    omega (arith, go (is_white_space (a ∷ [])) (is_white_space (a ∷ b ∷ [])) (is_white_space (a ∷ b ∷ c ∷ [])))
  where
    go : (x y z : Bool) → cond x 1 (cond y 2 (cond z 3 0)) ≤ 3
    go true y z = omega arith
    go false true z = omega arith
    go false false true = omega arith
    go false false false = omega arith

-- ---- from character to character

from_drop : (k : ℕ) (s : Bytes) → trim_from k s ≡ trim_from 0 (drop k s)
unfolding trim_from
from_drop zero s = refl
from_drop (suc k) [] = refl
from_drop (suc k) (b ∷ s) = from_drop k s

pub start_here : (s : Bytes) → white_width s ≡ 0 → trim_from 0 s ≡ s
unfolding trim_from
start_here [] e = refl
start_here (b ∷ s) e = rw (e, trim_from)

pub start_goes : (s : Bytes) (n : ℕ) → white_width s ≡ n → trim_from 0 s ≡ trim_from 0 (drop n s)
unfolding trim_from
start_goes s zero e = refl
start_goes [] (suc k) e = refl
start_goes (b ∷ s) (suc k) e = rw (e, trim_from) (from_drop k s)
