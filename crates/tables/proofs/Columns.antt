-- The cells of a line, one by one.
use Prim.Native.Nat.{ℕ, ◌+◌, ◌≤◌}
use native.Mathlib.Omega.{arith}
use mathlib.Core.Path.{◌≡◌, refl, ap}
use mathlib.Core.Bool.{Bool, true, false}
use mathlib.Core.List.{List, [], ◌∷◌, ◌++◌}
use lib.ListN.{length, take, drop, length-append}
use Rattle.spec.specs.Bytes.{Bytes}
use Rattle.text.specs.declared.text.Text.{Text}
use Rattle.tables.specs.Puts.{PutsTo, bar, bars}
use Rattle.tables.specs.Spans.{cuts}
use Rattle.tables.specs.Columns.{column, columns}
use Rattle.tables.proofs.Putting.{Due, due_room, due_on, puts_text, puts_behind, length_bar}
use Rattle.tables.proofs.Cutting.{cuts_first, cuts_none, unders_first, unders_none}

columns_first : (under : Bool) {l m : List ℕ} {n : ℕ} → l ≡ n ∷ m → (at : ℕ) (d : Bytes)
    → bars (columns under l (drop at d)) ≡ bar (column under n (drop at d)) ++ bars (columns under m (drop (at + n) d))
columns_first true e at d = unders_first e
columns_first false e at d = cuts_first e at d

pub columns_none : (under : Bool) {l : List ℕ} (s : Bytes) → l ≡ [] → bars (columns under l s) ≡ []
columns_none true s e = unders_none e
columns_none false s e = cuts_none s e

-- hyphens do not depend on the text
column_as : (under : Bool) (n : ℕ) {s t : Bytes} → (under ≡ false → s ≡ t) → column under n s ≡ column under n t
column_as true n h = refl
column_as false n h = ap (take n) (h refl)

-- the columns stay as they are when something is put before the texts
pub columns_behind : (under : Bool) (l : List ℕ) (src : ℕ) {a b : Text} {x : Bytes} → PutsTo a b x → (under ≡ false → b.len ≤ src)
    → columns under l (drop src b.room.now) ≡ columns under l (drop src a.room.now)
columns_behind true l src p h = refl
columns_behind false l src p h = ap (cuts l) (puts_behind src p (h refl))

-- the cell of the first length, where the line ends before the texts
module _ (under : Bool) {l m : List ℕ} {n : ℕ} (e : l ≡ n ∷ m) {a b : Text} (at : ℕ) {whole : Bytes}
    (p : Due a b (bars (columns under l (drop at a.room.now))) whole) (far : under ≡ false → a.len + length whole ≤ at) where
  column_same : column under n (drop at b.room.now) ≡ column under n (drop at a.room.now)
  column_same = column_as under n (λ q. puts_behind at p.puts (omega (arith, due_room p, far q)))

  pub column_room : b.len + length (column under n (drop at b.room.now)) + 3 ≤ a.len + length whole
  column_room =
      omega
      (arith, due_room p, ap length column_same, ap length (columns_first under e at a.room.now), length-append (bar (column under n (drop at a.room.now))) (bars (columns under m (drop (at + n) a.room.now))), length_bar (column under n (drop at a.room.now)))

  pub column_on : {c : Text} → PutsTo b c (bar (column under n (drop at b.room.now))) → Due a c (bars (columns under m (drop (at + n) a.room.now))) whole
  column_on q = due_on p (columns_first under e at a.room.now) (puts_text (ap bar column_same) q)
