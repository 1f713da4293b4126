-- What the iterator over siblings gives.
use Rattle.std.specs.Prelude.{ℕ, ◌-◌, ◌≤◌, ◌<◌, ◌≡◌, Option, None, Some}
use Rattle.spec.specs.Bytes.{Bytes}
use Rattle.tree.specs.Memory.{end_at}
use Rattle.tree.specs.declared.nodes.Siblings.{Siblings}

-- as many nodes are left at most
abbrev pub left_at_most : Siblings → ℕ
left_at_most s = s.end - s.next

-- s gives the nodes from number i up to e of that memory
pub record Over (sh ns : Bytes) (i e : ℕ) (s : Siblings) : Type 0 where
  pub sheet_is : s.tree.sheet.now ≡ sh
  pub nodes_are : s.tree.nodes.now ≡ ns
  pub next_is : s.next ≡ i
  pub end_is : s.end ≡ e

-- they are over the same nodes, up to the same end
pub record Alike (s t : Siblings) : Type 0 where
  pub sheet_is : t.tree.sheet.now ≡ s.tree.sheet.now
  pub nodes_are : t.tree.nodes.now ≡ s.tree.nodes.now
  pub end_is : t.end ≡ s.end

-- the node at hand is given, and the one behind its last descendant is next; or none is left
abbrev pub GivesSibling : Siblings → Option ℕ → Siblings → Type 0
GivesSibling s None t = (s.end ≤ s.next) × (t.end ≤ t.next)
GivesSibling s (Some i) t = (i ≡ s.next) × (s.next < s.end) × (t.next ≡ end_at s.tree.nodes.now s.next) × Alike s t
