-- The entry of a node in its record: the place of its field, and the number of its name.
use Prim.Native.Nat.{ℕ, suc, ◌+◌, ◌/◌, ◌%◌, ◌≤◌, ◌<◌}
use native.Mathlib.Omega.{arith}
use mathlib.Core.Path.{◌≡◌}
use mathlib.Core.Bool.{Bool, true, false, cond}
use mathlib.Core.List.{List, [], ◌∷◌}
use lib.ListN.{length, get_or}
use lib.Dec.{eqb}
use Rattle.spec.specs.Bytes.{Bytes, same}
use Rattle.spec.specs.Names.{place, names, tag_of}
use Rattle.tree.specs.Nodes.{body_at, name_at}
use Rattle.tree.specs.Represents.{entry_of}

place_low : (n : ℕ) (x : Bytes) (ys : List Bytes) → place n x ys ≤ n + length ys
unfolding place
place_low n x [] = omega arith
place_low n x (y ∷ ys) = go (same x y) (place_low (suc n) x ys)
  where
    go : (t : Bool) → place (suc n) x ys ≤ suc n + length ys → cond t n (place (suc n) x ys) ≤ n + suc (length ys)
    go true h = omega arith
    go false h = omega arith

tag_low : (name : Bytes) → tag_of name < 256
unfolding tag_of names
tag_low name = omega (arith, place_low 1 name names)

pub name_low : (sh : Bytes) (p : ℕ) → name_at sh p < 256
unfolding name_at
name_low sh p = go (eqb (get_or sh p 0) 1)
  where
    go : (t : Bool) → cond t (tag_of (body_at sh p)) 0 < 256
    go true = tag_low (body_at sh p)
    go false = omega arith

pub entry_place : (sh : Bytes) (p : ℕ) → entry_of sh p / 256 ≡ p
unfolding entry_of
entry_place sh p = omega (arith, name_low sh p)

pub entry_number : (sh : Bytes) (p : ℕ) → entry_of sh p % 256 ≡ name_at sh p
unfolding entry_of
entry_number sh p = omega (arith, name_low sh p)
