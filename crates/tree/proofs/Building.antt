-- Storing the fields of a sheet one after the other: what node memory tells so far, and what the rest will add.
use Prim.Native.Nat.{ℕ, ◌+◌, ◌*◌, ◌<◌, ◌≤◌}
use native.Mathlib.Omega.{arith}
use mathlib.Core.Path.{◌≡◌, refl, ◌∙◌}
use mathlib.Core.Logic.{⊎_elim}
use mathlib.Core.List.{List, [], ◌∷◌}
use lib.ListN.{length}
use Rattle.spec.specs.Bytes.{Bytes}
use Rattle.spec.proofs.Order.{le_or_lt}
use Rattle.tree.specs.Memory.{word_at, Stored, entry_at, end_at, parent_at}
use Rattle.tree.specs.Kinds.{Placed}
use Rattle.tree.proofs.Numbers.{word_same, quad_same}

-- i is none of these
abbrev pub Off : ℕ → List ℕ → Type 0
Off i [] = Unit {0}
Off i (j ∷ js) = (i ≡ j → ⊥) × Off i js

-- of the first k records b says what a says, but for the ends of those that are still open
pub record Later (k : ℕ) (stack : List ℕ) (a b : Bytes) : Type 0 where
  pub long : length b ≡ length a
  pub entry : (i : ℕ) → i < k → entry_at b i ≡ entry_at a i
  pub parent : (i : ℕ) → i < k → parent_at b i ≡ parent_at a i
  pub shut : (i : ℕ) → i < k → Off i stack → end_at b i ≡ end_at a i

pub later_refl : (k : ℕ) (stack : List ℕ) (a : Bytes) → Later k stack a a
later_refl k stack a = record { long = refl; entry = λ i h. refl; parent = λ i h. refl; shut = λ i h o. refl }

-- the open nodes: the innermost, and those around it, each the parent of the one before it; the last is node 0
abbrev pub Chain : Bytes → ℕ → List ℕ → Type 0
Chain ns cur [] = cur ≡ 0
Chain ns cur (q ∷ around) = (q < cur) × (parent_at ns cur ≡ q) × Chain ns q around

-- a number above the innermost is none of them
pub off_above : (ns : Bytes) (i cur : ℕ) (around : List ℕ) → Chain ns cur around → cur < i → Off i (cur ∷ around)
off_above ns i cur [] c h = ((λ e. omega arith), tt)
off_above ns i cur (q ∷ around) c h = ((λ e. omega arith), off_above ns i q around c.2 (omega arith))

-- the chain stays where the parents stay
pub chain_later : (a b : Bytes) (k cur : ℕ) (around : List ℕ) → ((i : ℕ) → i < k → parent_at b i ≡ parent_at a i) → cur < k → Chain a cur around → Chain b cur around
chain_later a b k cur [] same h c = c
chain_later a b k cur (q ∷ around) same h c = (c.0, same cur h ∙ c.1, chain_later a b k q around same (omega (arith, c.0)) c.2)

-- ---- a new record

module _ (k p e cur : ℕ) {a b : Bytes} (new : Placed k p e cur a b) where
  old_entry : (i : ℕ) → i < k → entry_at b i ≡ entry_at a i
  old_entry i h = quad_same a b (i * 24) (λ j l m. new.before j (omega arith))

  pub old_parent : (i : ℕ) → i < k → parent_at b i ≡ parent_at a i
  old_parent i h = word_same a b (i * 24 + 6) (λ j l m. new.before j (omega arith))

  old_end : (i : ℕ) → i < k → end_at b i ≡ end_at a i
  old_end i h = word_same a b (i * 24 + 4) (λ j l m. new.before j (omega arith))

  -- what stays behind the new record stayed before it; `stack'` are the open nodes behind it
  pub placed_later : (stack stack' : List ℕ) (c : Bytes) → ((i : ℕ) → i < k → Off i stack → Off i stack') → Later (k + 1) stack' b c → Later k stack a c
  placed_later stack stack' c off l =
      record {
        long = l.long ∙ new.same_long;
        entry = λ i h. l.entry i (omega arith) ∙ old_entry i h;
        parent = λ i h. l.parent i (omega arith) ∙ old_parent i h;
        shut = λ i h o. l.shut i (omega arith) (off i h o) ∙ old_end i h;
      }

-- ---- the end of an open node

module _ (k cur : ℕ) {a b : Bytes} (end : Stored word_at 2 (cur * 24 + 4) k a b) where
  end_entry : (i : ℕ) → entry_at b i ≡ entry_at a i
  end_entry i =
      quad_same a b (i * 24)
      (λ j l m. ⊎_elim (λ (h : i ≤ cur). end.before j (omega arith)) (λ (h : cur < i). end.behind j (omega arith)) (le_or_lt i cur))

  pub end_parent : (i : ℕ) → parent_at b i ≡ parent_at a i
  end_parent i =
      word_same a b (i * 24 + 6)
      (λ j l m. ⊎_elim (λ (h : cur ≤ i). end.behind j (omega arith)) (λ (h : i < cur). end.before j (omega arith)) (le_or_lt cur i))

  end_other : (i : ℕ) → (i ≡ cur → ⊥) → end_at b i ≡ end_at a i
  end_other i ne =
      word_same a b (i * 24 + 4)
      (λ j l m. ⊎_elim (λ (h : cur ≤ i). end.behind j (omega (arith, ne))) (λ (h : i < cur). end.before j (omega arith)) (le_or_lt cur i))

  pub end_later : (around : List ℕ) (c : Bytes) → Later k around b c → Later k (cur ∷ around) a c
  end_later around c l =
      record {
        long = l.long ∙ end.same_long;
        entry = λ i h. l.entry i h ∙ end_entry i;
        parent = λ i h. l.parent i h ∙ end_parent i;
        shut = λ i h o. l.shut i h o.1 ∙ end_other i o.0;
      }
