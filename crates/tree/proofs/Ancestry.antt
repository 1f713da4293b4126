-- The node with a number, and the elements around it.
use Prim.Native.Nat.{ℕ, zero, suc, ◌+◌, ◌-◌, ◌*◌, ◌≤◌, ◌<◌}
use native.Mathlib.Omega.{arith}
use mathlib.Core.Path.{◌≡◌, refl, ap, sym, subst}
use mathlib.Core.Bool.{Bool, true, false, cond}
use mathlib.Core.List.{List, [], ◌∷◌}
use lib.ListN.{length}
use lib.Dec.{ltb}
use borrow.Author.Tests.{ltb-true, ltb-false}
use Rattle.spec.specs.Bytes.{Bytes}
use Rattle.spec.specs.Fields.{fields}
use Rattle.spec.specs.Tree.{Attr, Forest, nothing, text, comment, element, tree_of, size, height, Found, node_at}
use Rattle.tree.specs.Memory.{place_at, end_at, parent_at}
use Rattle.tree.specs.Represents.{attrs_behind, Rep, Around, head_of, Holds}
use Rattle.tree.proofs.Firsts.{First, first}
use Rattle.tree.proofs.Ranges.{rep_size}

-- an element is the innermost around its children
pub around_in : (sh ns : Bytes) (i : ℕ) (attrs : List Attr) (anc : List (List Attr)) → 0 < i → i * 24 + 24 ≤ length ns
    → place_at ns i + 3 ≤ length sh → attrs ≡ attrs_behind sh (place_at ns i) → Around sh ns (parent_at ns i) anc → Around sh ns i (attrs ∷ anc)
unfolding Around
around_in sh ns i attrs anc l m n e a = (l, m, n, e, a)

-- nothing stands around the children of the fragment
pub around_none : (sh ns : Bytes) (anc : List (List Attr)) → Around sh ns 0 anc → anc ≡ []
unfolding Around
around_none sh ns [] a = refl
around_none sh ns (attrs ∷ more) a = absurd (omega (arith, a.0))

-- the innermost element around the children of q, and those around it
pub record Innermost (sh ns : Bytes) (q : ℕ) (anc : List (List Attr)) : Type 0 where
  pub more : List (List Attr)
  pub anc_is : anc ≡ attrs_behind sh (place_at ns q) ∷ more
  pub readable : (q * 24 + 24 ≤ length ns) × (place_at ns q + 3 ≤ length sh)
  pub around : Around sh ns (parent_at ns q) more

pub innermost : (sh ns : Bytes) (q : ℕ) (anc : List (List Attr)) → Around sh ns q anc → 0 < q → Innermost sh ns q anc
unfolding Around
innermost sh ns q [] a l = absurd (omega (arith, a))
innermost sh ns q (attrs ∷ more) a l =
    record { more = more; anc_is = ap (λ (x : List Attr). x ∷ more) a.3; readable = (a.1, a.2); around = a.4 }

-- node j alone, of at most so many levels, and the elements around it
pub record FoundAt (sh ns : Bytes) (j levels : ℕ) (found : Found) : Type 0 where
  pub rep : Rep sh ns (parent_at ns j) j (end_at ns j) found.node
  pub low : height found.node ≤ levels
  pub around : Around sh ns (parent_at ns j) found.ancestors

pick : {sh ns : Bytes} {j levels : ℕ} (k n : ℕ) (x y : Found) (t : Bool) → ltb k n ≡ t → (k < n → FoundAt sh ns j levels x)
    → (n ≤ k → FoundAt sh ns j levels y) → FoundAt sh ns j levels (cond t x y)
pick k n x y true e p q = p (ltb-true k n e)
pick k n x y false e p q = q (ltb-false k n e)

module _ (sh ns : Bytes) (j levels : ℕ) where
  -- node i is the first of the forest
  here : (parent i e : ℕ) (f : Forest) (anc : List (List Attr)) → Rep sh ns parent i e f → height f ≤ levels → i < e → Around sh ns parent anc
      → i ≡ j → FoundAt sh ns j levels (record { ancestors = anc; node = head_of f })
  here parent i e f anc h low l a q =
      let t : First sh ns parent i e f = first sh ns parent i e f h l in
      subst (λ (n : ℕ). FoundAt sh ns n levels (record { ancestors = anc; node = head_of f })) q
      (record {
        rep = subst (λ (p : ℕ). Rep sh ns p i (end_at ns i) (head_of f)) (sym t.parent_is) t.alone;
        low = omega (arith, t.low);
        around = subst (λ (p : ℕ). Around sh ns p anc) (sym t.parent_is) a;
      })

  -- the node that begins after k others
  pub found_at : (parent i e : ℕ) (f : Forest) (anc : List (List Attr)) (k : ℕ) → Rep sh ns parent i e f → height f ≤ levels
      → Around sh ns parent anc → 0 < i → j ≡ i + k → j < e → FoundAt sh ns j levels (node_at k anc f)
  unfolding node_at Rep head_of height
  found_at parent i e nothing anc k h low a l q m = absurd (omega arith)
  found_at parent i e (text s r) anc zero h low a l q m = here parent i e (text s r) anc h low (omega arith) a (omega arith)
  found_at parent i e (text s r) anc (suc k) h low a l q m = found_at parent (i + 1) e r anc k h.4 low a (omega arith) (omega arith) m
  found_at parent i e (comment s r) anc zero h low a l q m = here parent i e (comment s r) anc h low (omega arith) a (omega arith)
  found_at parent i e (comment s r) anc (suc k) h low a l q m = found_at parent (i + 1) e r anc k h.4 low a (omega arith) (omega arith) m
  found_at parent i e (element name attrs kids r) anc zero h low a l q m =
      here parent i e (element name attrs kids r) anc h low (omega arith) a (omega arith)
  found_at parent i e (element name attrs kids r) anc (suc k) h low a l q m =
      let d : end_at ns i ≡ i + 1 + size kids = rep_size sh ns i (i + 1) (end_at ns i) kids h.4 in
      let b : Around sh ns (parent_at ns i) anc = subst (λ (p : ℕ). Around sh ns p anc) (sym h.3) a in
      pick k (size kids) (node_at k (attrs ∷ anc) kids) (node_at (k - size kids) anc r) (ltb k (size kids)) refl
      (λ o. found_at i (i + 1) (end_at ns i) kids (attrs ∷ anc) k h.4 (omega arith) (around_in sh ns i attrs anc l h.0 h.1.head h.2 b) (omega arith) (omega arith) (omega arith))
      (λ o. found_at parent (end_at ns i) e r anc (k - size kids) h.5 (omega arith) a (omega arith) (omega arith) m)

-- the node of the sheet with the number j
pub start_at_lem : (sh ns : Bytes) (n j : ℕ) → Holds sh ns n → 0 < j → j < n
    → FoundAt sh ns j (height (tree_of (fields sh))) (node_at (j - 1) [] (tree_of (fields sh)))
unfolding Around
start_at_lem sh ns n j h l m =
    found_at sh ns j (height (tree_of (fields sh))) 0 1 n (tree_of (fields sh)) [] (j - 1) h.tree (omega arith) refl (omega arith) (omega arith) m
