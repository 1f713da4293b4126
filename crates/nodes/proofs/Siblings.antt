-- Loops from sibling to sibling.
use Prim.Native.Nat.{ℕ, ◌+◌, ◌≤◌, ◌<◌}
use native.Mathlib.Omega.{arith}
use mathlib.Core.Path.{◌≡◌, refl, ap, ap₂, ◌∙◌, sym, subst}
use Rattle.std.specs.Prelude.{Some}
use Rattle.spec.specs.Bytes.{Bytes}
use Rattle.spec.specs.Tree.{Forest, nothing, kids_of}
use Rattle.tree.specs.Memory.{end_at}
use Rattle.tree.specs.Represents.{Rep, head_of, rest_of}
use Rattle.tree.specs.Siblings.{Over, GivesSibling}
use Rattle.tree.specs.declared.nodes.Siblings as iter
use Rattle.tree.proofs.Firsts.{First, first, ended}
use Rattle.nodes.proofs.Numbers.{node_first}
use Rattle.nodes.specs.Stands.{Siblings, NodeAt}

-- of the siblings from `from` up to `to` those from i on are left: they have the value v of all
pub record Left {M : Type 0} (v : Forest → M) (sh ns : Bytes) (from to i : ℕ) : Type 0 where
  pub here : Siblings sh ns i to
  pub goes : (parent : ℕ) (f : Forest) → Rep sh ns parent from to f → (g : Forest) × Rep sh ns parent i to g × (v f ≡ v g)

module _ {M : Type 0} {v : Forest → M} {sh ns : Bytes} {from to i : ℕ} (p : Left v sh ns from to i) where
  pub left_first : i < to → First sh ns p.here.0 i to p.here.1
  left_first l = first sh ns p.here.0 i to p.here.1 p.here.2 l

  pub left_node : i < to → NodeAt sh ns i
  left_node l = node_first (left_first l)

  -- the value is what the next sibling and those behind it have
  pub left_on : i < to → ((parent : ℕ) (g : Forest) → Rep sh ns parent i to g → v g ≡ v (rest_of g)) → Left v sh ns from to (end_at ns i)
  left_on l e =
      record {
        here = (p.here.0, rest_of p.here.1, (left_first l).after);
        goes = λ parent f h.
            let q = p.goes parent f h in
            (rest_of q.0, (first sh ns parent i to q.0 q.1 l).after, q.2 ∙ e parent q.0 q.1);
      }

  -- the value is known here
  pub left_at : (r : M) → ((parent : ℕ) (g : Forest) → Rep sh ns parent i to g → v g ≡ r) → (parent : ℕ) (f : Forest) → Rep sh ns parent from to f → r ≡ v f
  left_at r e parent f h = let q = p.goes parent f h in sym (q.2 ∙ e parent q.0 q.1)

  pub left_none : (r : M) → to ≤ i → v nothing ≡ r → (parent : ℕ) (f : Forest) → Rep sh ns parent from to f → r ≡ v f
  left_none r l e = left_at r (λ parent g h. ap v (ended sh ns parent i to g h l) ∙ e)

-- ---- the iterator s over siblings up to `to` gives node i, and is t behind it

module _ {sh ns : Bytes} {to : ℕ} {s t : iter.Siblings} (o : Over sh ns s.next to s) {i : ℕ} (g : GivesSibling s (Some i) t) where
  pub gives_before : i < to
  gives_before = omega (arith, g.0, g.1, o.end_is)

  pub gives_next : t.next ≡ end_at ns i
  gives_next = g.2 ∙ ap₂ end_at o.nodes_are (sym g.0)

  pub gives_over : Over sh ns t.next to t
  gives_over =
      record { sheet_is = g.3.sheet_is ∙ o.sheet_is; nodes_are = g.3.nodes_are ∙ o.nodes_are; next_is = refl; end_is = g.3.end_is ∙ o.end_is }

module _ {sh ns : Bytes} {from to : ℕ} {s : iter.Siblings} where
  pub over_here : Over sh ns from to s → Over sh ns s.next to s
  over_here o = record { sheet_is = o.sheet_is; nodes_are = o.nodes_are; next_is = refl; end_is = o.end_is }

  pub gives_none : Over sh ns from to s → s.end ≤ s.next → to ≤ s.next
  gives_none o g = omega (arith, g, o.end_is)

-- where a `for` over them begins
pub over_begun : {sh ns : Bytes} {from to e : ℕ} {s t : iter.Siblings} → Over sh ns from e s → t ≡ s → e ≡ to → Over sh ns t.next to t × (t.next ≡ from)
over_begun {sh} {ns} {from} {to} {e} {s} {t} o q p =
    subst (λ (u : iter.Siblings). Over sh ns u.next to u × (u.next ≡ from)) (sym q)
    (over_here (subst (λ (d : ℕ). Over sh ns from d s) p o), o.next_is)

-- ---- in a `for` over them those from the next of the iterator s on are left

pub record Walks {M : Type 0} (v : Forest → M) (sh ns : Bytes) (from to : ℕ) (s : iter.Siblings) : Type 0 where
  pub over : Over sh ns s.next to s
  pub left : Left v sh ns from to s.next

module _ {M : Type 0} {v : Forest → M} {sh ns : Bytes} {from to : ℕ} {s t : iter.Siblings} (p : Walks v sh ns from to s) {i : ℕ} (g : GivesSibling s (Some i) t) where
  pub turn_before : i < to
  turn_before = gives_before p.over g

  pub turn_left : Left v sh ns from to i
  turn_left = subst (Left v sh ns from to) (sym g.0) p.left

  -- the next turn
  pub turn_on : Left v sh ns from to (end_at ns i) → Walks v sh ns from to t
  turn_on q = record { over = gives_over p.over g; left = subst (Left v sh ns from to) (sym (gives_next p.over g)) q }

module _ {M : Type 0} {v : Forest → M} {sh ns : Bytes} {from to : ℕ} {s : iter.Siblings} (p : Walks v sh ns from to s) where
  pub turn_none : s.end ≤ s.next → to ≤ s.next
  turn_none = gives_none p.over

-- ---- the node at hand, and what stands in it; its end is d

module _ (sh ns : Bytes) (parent i e : ℕ) (f : Forest) (h : Rep sh ns parent i e f) (l : i < e) where
  pub its_node : NodeAt sh ns i
  its_node = node_first (first sh ns parent i e f h l)

  module _ {d : ℕ} (q : d ≡ end_at ns i) where
    pub its_kids : Rep sh ns i (i + 1) d (kids_of f)
    its_kids = subst (λ (k : ℕ). Rep sh ns i (i + 1) k (kids_of f)) (sym q) (first sh ns parent i e f h l).in_it

    pub its_head : Rep sh ns parent i d (head_of f)
    its_head = subst (λ (k : ℕ). Rep sh ns parent i k (head_of f)) (sym q) (first sh ns parent i e f h l).alone
