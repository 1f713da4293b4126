-- Texts that are appended before a room, behind which the memory stays as it is.
use Prim.Native.Nat.{ℕ, suc, ◌+◌, ◌-◌, ◌≤◌, ◌<◌}
use mathlib.Core.Path.{◌≡◌, sym, ap, subst, subst₂, ◌∙◌}
use mathlib.Core.Bool.{false}
use mathlib.Core.List.{List, [], ◌∷◌, ◌++◌}
use native.Mathlib.Omega.{arith}
use native.Mathlib.Numerals.{add-one}
use lib.ListN.{length, take, drop, get_or, length-append, length-take, length-drop, drop_of_length-le}
use lib.Seq.{length-take-le, take-take, get_or-drop, get_or-take, slice, slice-cons, take_at, drop_at}
use lib.Dec.{eqb}
use Rattle.spec.specs.Bytes.{starts_with}
use Rattle.spec.specs.Out.{Step}
use Rattle.text.specs.Source.{WritesIn}
use Rattle.text.specs.Writes.{Writes, Wrote}
use Rattle.text.proofs.Reading.{drop_take, starts_byte, starts_short}
use Rattle.text.proofs.Writing.{alike}

-- ---- parts that are alike

-- `&s[from..to]` lends it
pub part_is : (from to : ℕ) (s : List ℕ) → take (to - from) (drop from s) ≡ slice from to s
part_is from to s = sym (drop_take from to s)

pub part_byte : (s : List ℕ) (from to i : ℕ) → from + i < to → get_or (slice from to s) i 0 ≡ get_or s (from + i) 0
part_byte s from to i h = get_or-drop from (take to s) i 0 ∙ get_or-take to s (from + i) 0 h

pub part_none : (i to : ℕ) (s : List ℕ) → to ≤ i → slice i to s ≡ []
part_none i to s h = let q : length (take to s) ≤ i = omega (arith, length-take to s) in drop_of_length-le (take to s) q

pub slice_on : (s : List ℕ) (i to : ℕ) → i < to → to ≤ length s → slice i to s ≡ get_or s i 0 ∷ slice (i + 1) to s
slice_on s i to h k = slice-cons i to s 0 h k ∙ ap (λ (j : ℕ). get_or s i 0 ∷ slice j to s) (sym (add-one i))

pub follows_some : (i to b : ℕ) (s : List ℕ) → i < to → to ≤ length s → eqb (get_or s i 0) b ≡ starts_with (b ∷ []) (slice i to s)
follows_some i to b s h k =
    subst (λ (l : List ℕ). eqb (get_or s i 0) b ≡ starts_with (b ∷ []) l) (sym (slice-cons i to s 0 h k)) (starts_byte (get_or s i 0 ∷ slice (suc i) to s) b (λ q. omega arith))

pub follows_none : (i to b : ℕ) (s : List ℕ) → to ≤ i → false ≡ starts_with (b ∷ []) (slice i to s)
follows_none i to b s h = sym (ap (starts_with (b ∷ [])) (part_none i to s h) ∙ starts_short [] (b ∷ []) (omega arith))

front : {room n : ℕ} (d : List ℕ) → n ≤ room → take n (take room d) ≡ take n d
front {room} {n} d h = take-take n room d h

-- the front of the memory is lent, and comes back as ys
pub lent_front : (room len : ℕ) (d ys : List ℕ) {r : Wrote} (f : Step) → len ≤ room → room ≤ length d → length ys ≡ length (take room d) → Writes (length (take room d)) ys r (f (take len (take room d)))
    → WritesIn room d (ys ++ drop room d) r (f (take len d))
lent_front room len d ys {r} f h k l w =
    let q : length (take room d) ≡ room = length-take-le room d k in
    record {
      long = omega (arith, length-append ys (drop room d), length-drop room d);
      writes = subst₂ (λ (j : ℕ) (z : List ℕ). Writes j z r (f (take len d))) q (sym (take_at ys (drop room d) room (l ∙ q))) (alike (ap f (sym (front d h))) w);
      behind = drop_at ys (drop room d) room (l ∙ q);
    }
