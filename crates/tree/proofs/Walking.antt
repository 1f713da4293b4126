-- From sibling to sibling.
use Prim.Native.Nat.{ℕ, ◌+◌, ◌*◌, ◌≤◌, ◌<◌}
use mathlib.Core.Logic.{∥∥₁_elim, ∥∥₁_map}
use mathlib.Core.Path.{◌≡◌, subst, sym}
use lib.ListN.{length}
use Rattle.std.proofs.Props.{props}
use Rattle.spec.specs.Bytes.{Bytes}
use Rattle.tree.specs.Memory.{end_at}
use Rattle.tree.specs.Represents.{Nodes, rest_of}
use Rattle.tree.proofs.Firsts.{First, first}

module _ (sh ns : Bytes) {i e : ℕ} (l : i < e) where
  begun : (n : Nodes sh ns i e) → First sh ns n.0 i e n.1
  begun n = first sh ns n.0 i e n.1 n.2 l

  -- node i is the first of some siblings
  pub node_inside : ∥ Nodes sh ns i e ∥₁ → i * 24 + 24 ≤ length ns
  node_inside s = ∥∥₁_elim s (search props) (λ n. (begun n).inside)

  pub node_later : ∥ Nodes sh ns i e ∥₁ → i < end_at ns i
  node_later s = ∥∥₁_elim s (search props) (λ n. (begun n).later)

  pub nodes_behind : {j : ℕ} → ∥ Nodes sh ns i e ∥₁ → j ≡ end_at ns i → ∥ Nodes sh ns j e ∥₁
  nodes_behind s q = subst (λ (k : ℕ). ∥ Nodes sh ns k e ∥₁) (sym q) (∥∥₁_map s (λ n. (n.0, rest_of n.1, (begun n).after)))
