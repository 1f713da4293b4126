-- The falling number of the writers: a level is 2 ^ 67 ranks.
use Prim.Native.Nat.{ℕ, ◌+◌, ◌-◌, ◌*◌, ◌<◌}
use native.Mathlib.Omega.{arith}
use mathlib.Core.Path.{◌≡◌}

-- a lower rank of the same level
pub falls_in : {t j k : ℕ} (n : ℕ) → n * 147573952589676412928 + k ≡ t → j < k → n * 147573952589676412928 + j < t
falls_in n q l = omega (arith, q, l)

-- the level below
pub falls_out : {t j : ℕ} (n : ℕ) → n * 147573952589676412928 + 0 ≡ t → 0 < n → j < 147573952589676412928 → (n - 1) * 147573952589676412928 + j < t
falls_out n q l m = omega (arith, q, l, m)
