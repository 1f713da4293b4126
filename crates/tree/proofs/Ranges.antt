-- Descendants as a range of numbers: what the nodes of a forest give one after the other is what their numbers give.
use Prim.Native.Nat.{ℕ, zero, suc, ◌+◌, ◌-◌, ◌≤◌, ◌<◌}
use native.Mathlib.Omega.{arith}
use native.Mathlib.Numerals.{add-one}
use mathlib.Core.Path.{◌≡◌, refl, ap, ap₂, ◌∙◌, sym, subst}
use mathlib.Core.Logic.{⊎_elim}
use mathlib.Core.List.{[], ◌++◌, append_assoc}
use lib.ListN.{get_or}
use borrow.Author.Tests.{eq-eqb, ne_eqb}
use Rattle.spec.specs.Bytes.{Bytes}
use Rattle.spec.specs.Fields.{fields}
use Rattle.spec.specs.Tree.{Forest, nothing, text, comment, element, tree_of, size, height, kids_of, text_of}
use Rattle.tree.specs.Memory.{place_at, end_at}
use Rattle.tree.specs.Represents.{Rep, rest_of, Holds}
use Rattle.tree.specs.Nodes.{text_at, Readable}
use Rattle.spec.proofs.Order.{le_or_lt}
use Rattle.tree.proofs.Firsts.{First, first, rep_le, its_tag, its_body}

pub rep_size : (sh ns : Bytes) (parent i e : ℕ) (f : Forest) → Rep sh ns parent i e f → e ≡ i + size f
unfolding Rep size
rep_size sh ns parent i e nothing h = omega arith
rep_size sh ns parent i e (text s r) h = omega (arith, rep_size sh ns parent (i + 1) e r h.4)
rep_size sh ns parent i e (comment s r) h = omega (arith, rep_size sh ns parent (i + 1) e r h.4)
rep_size sh ns parent i e (element name attrs k r) h =
    omega (arith, rep_size sh ns i (i + 1) (end_at ns i) k h.4, rep_size sh ns parent (end_at ns i) e r h.5)

-- node j is the first of some forest, of at most so many levels, which ends where its parent does, and at e at the latest
pub record Numbered (sh ns : Bytes) (j e levels : ℕ) : Type 0 where
  pub parent : ℕ
  pub from_it : Forest
  pub rep : Rep sh ns parent j (end_at ns parent) from_it
  pub up : parent < j
  pub below : j < end_at ns parent
  pub within : end_at ns parent ≤ e
  pub low : height from_it ≤ levels

-- the forest goes on from i to the end of its parent, d; j is the number i or one behind it
module _ (sh ns : Bytes) (parent i j d e levels : ℕ) (f : Forest) (low : height f ≤ levels) (up : parent < i) (le : d ≤ e) (end : d ≡ end_at ns parent)
    (h : Rep sh ns parent i d f) where
  this : i ≡ j → j < d → Numbered sh ns j e levels
  this q m =
      record {
        parent = parent;
        from_it = f;
        rep = subst (λ (n : ℕ). Rep sh ns parent j n f) end (subst (λ (k : ℕ). Rep sh ns parent k d f) q h);
        up = omega arith;
        below = omega arith;
        within = omega arith;
        low = low;
      }

-- every number of the range is a node
pub numbered : (sh ns : Bytes) (j e levels parent i d : ℕ) (f : Forest) → height f ≤ levels → parent < i → d ≤ e → d ≡ end_at ns parent
    → Rep sh ns parent i d f → i ≤ j → j < d → Numbered sh ns j e levels
unfolding Rep height
numbered sh ns j e levels parent i d nothing low up le end h l m = absurd (omega arith)
numbered sh ns j e levels parent i d (text s r) low up le end h l m =
    ⊎_elim (λ (q : j ≤ i). this sh ns parent i j d e levels (text s r) low up le end h (omega arith) m)
    (λ (q : i < j). numbered sh ns j e levels parent (i + 1) d r low (omega arith) le end h.4 (omega arith) m) (le_or_lt j i)
numbered sh ns j e levels parent i d (comment s r) low up le end h l m =
    ⊎_elim (λ (q : j ≤ i). this sh ns parent i j d e levels (comment s r) low up le end h (omega arith) m)
    (λ (q : i < j). numbered sh ns j e levels parent (i + 1) d r low (omega arith) le end h.4 (omega arith) m) (le_or_lt j i)
numbered sh ns j e levels parent i d (element name attrs k r) low up le end h l m =
    let a : i + 1 ≤ end_at ns i = rep_le sh ns i (i + 1) (end_at ns i) k h.4 in
    let b : end_at ns i ≤ d = rep_le sh ns parent (end_at ns i) d r h.5 in
    ⊎_elim (λ (q : j ≤ i). this sh ns parent i j d e levels (element name attrs k r) low up le end h (omega arith) m)
    (λ (q : i < j).
    ⊎_elim
    (λ (o : end_at ns i ≤ j). numbered sh ns j e levels parent (end_at ns i) d r (omega arith) (omega arith) le end h.5 o m)
    (λ (o : j < end_at ns i). numbered sh ns j e levels i (i + 1) (end_at ns i) k (omega arith) (omega arith) (omega arith) refl h.4 (omega arith) o)
    (le_or_lt (end_at ns i) j))
    (le_or_lt j i)

-- every number but 0 below the count is a node of the sheet
pub numbered_in : (sh ns : Bytes) (n j : ℕ) → Holds sh ns n → 0 < j → j < n → Numbered sh ns j n (height (tree_of (fields sh)))
numbered_in sh ns n j h l m =
    numbered sh ns j n (height (tree_of (fields sh))) 0 1 n (tree_of (fields sh)) (omega arith) (omega arith) (omega arith) (sym h.root_end) h.tree l m

pub readable : {sh ns : Bytes} {j e levels : ℕ} → Numbered sh ns j e levels → Readable sh ns j
readable {sh} {ns} {j} n =
    let t : First sh ns n.parent j (end_at ns n.parent) n.from_it = first sh ns n.parent j _ n.from_it n.rep n.below in
    record { inside = t.inside; placed = t.placed; numbered = t.numbered; up_inside = omega (arith, t.parent_is, n.up, t.inside) }

-- ---- what n numbers from i on give together

unfoldable pub total : {M : Type 0} → M → (M → M → M) → (ℕ → M) → ℕ → ℕ → M
total unit join at zero i = unit
total unit join at (suc n) i = join (at i) (total unit join at n (suc i))

-- for a loop that goes through the numbers from j up to e
module _ {M : Type 0} (unit : M) (join : M → M → M) (at : ℕ → M) (j e : ℕ) where
  pub total_on : j < e → total unit join at (e - j) j ≡ join (at j) (total unit join at (e - (j + 1)) (j + 1))
  unfolding total
  total_on h =
      let a : e - j ≡ suc (e - (j + 1)) = omega arith in
      rw (a, add-one j)

  pub total_done : e ≤ j → total unit join at (e - j) j ≡ unit
  unfolding total
  total_done h = let z : e - j ≡ 0 = omega arith in rw z

module _ {M : Type 0} (unit : M) (join : M → M → M) (left : (x : M) → join unit x ≡ x)
    (assoc : (x y z : M) → join (join x y) z ≡ join x (join y z)) (at : ℕ → M) where
  total_then : (m n i : ℕ) → total unit join at (m + n) i ≡ join (total unit join at m i) (total unit join at n (i + m))
  unfolding total
  total_then zero n i =
      let a : 0 + n ≡ n = omega arith in
      let b : i + 0 ≡ i = omega arith in
      rw (a, b) (sym (left (total unit join at n i)))
  total_then (suc m) n i =
      let a : suc m + n ≡ suc (m + n) = omega arith in
      let b : i + suc m ≡ suc i + m = omega arith in
      rw (a, b) (ap (join (at i)) (total_then m n (suc i)) ∙ sym (assoc (at i) _ _))

  -- a node, what stands in it up to d, and what follows up to e
  node_total : (i d e : ℕ) (v x y : M) → v ≡ join (at i) (join x y) → x ≡ total unit join at (d - (i + 1)) (i + 1)
      → y ≡ total unit join at (e - d) d → i + 1 ≤ d → d ≤ e → v ≡ total unit join at (e - i) i
  unfolding total
  node_total i d e v x y p q r l m =
      let a : e - i ≡ suc (d - (i + 1) + (e - d)) = omega arith in
      let b : d ≡ i + 1 + (d - (i + 1)) = omega arith in
      p
      ∙ rw (a, ← add-one i)
      (ap (join (at i))
      (ap₂ join q (r ∙ ap (total unit join at (e - d)) b) ∙ sym (total_then (d - (i + 1)) (e - d) (i + 1))))

  module _ (sh ns : Bytes) (value : Forest → M) (empty : value nothing ≡ unit)
      (node : (parent i e : ℕ) (f : Forest) → Rep sh ns parent i e f → i < e → value f ≡ join (at i) (join (value (kids_of f)) (value (rest_of f)))) where
    none_total : (i : ℕ) → value nothing ≡ total unit join at (i - i) i
    unfolding total
    none_total i = let z : i - i ≡ 0 = omega arith in rw z empty

    -- what a forest gives by its nodes, it gives by their numbers
    pub total_rep : (parent i e : ℕ) (f : Forest) → Rep sh ns parent i e f → value f ≡ total unit join at (e - i) i
    unfolding Rep kids_of rest_of
    total_rep parent i e nothing h = subst (λ (d : ℕ). value nothing ≡ total unit join at (d - i) i) h (none_total i)
    total_rep parent i e (text s r) h =
        let l : i + 1 ≤ e = rep_le sh ns parent (i + 1) e r h.4 in
        node_total i (i + 1) e _ _ _ (node parent i e (text s r) h (omega arith)) (none_total (i + 1)) (total_rep parent (i + 1) e r h.4) (omega arith) l
    total_rep parent i e (comment s r) h =
        let l : i + 1 ≤ e = rep_le sh ns parent (i + 1) e r h.4 in
        node_total i (i + 1) e _ _ _ (node parent i e (comment s r) h (omega arith)) (none_total (i + 1)) (total_rep parent (i + 1) e r h.4) (omega arith) l
    total_rep parent i e (element name attrs k r) h =
        let l : i + 1 ≤ end_at ns i = rep_le sh ns i (i + 1) (end_at ns i) k h.4 in
        let m : end_at ns i ≤ e = rep_le sh ns parent (end_at ns i) e r h.5 in
        node_total i (end_at ns i) e _ _ _ (node parent i e (element name attrs k r) h (omega arith)) (total_rep i (i + 1) (end_at ns i) k h.4)
        (total_rep parent (end_at ns i) e r h.5) l m

-- ---- `text_of`

text_node : (sh ns : Bytes) (parent i e : ℕ) (f : Forest) → Rep sh ns parent i e f → i < e
    → text_of f ≡ text_at sh (place_at ns i) ++ (text_of (kids_of f) ++ text_of (rest_of f))
unfolding Rep text_of kids_of rest_of text_at
text_node sh ns parent i e nothing h l = absurd (omega arith)
text_node sh ns parent i e (text s r) h l =
    rw (eq-eqb (get_or sh (place_at ns i) 0) 4 (its_tag h.1)) (ap (λ (b : Bytes). b ++ text_of r) (its_body h.1))
text_node sh ns parent i e (comment s r) h l =
    rw (ne_eqb (get_or sh (place_at ns i) 0) 4 (λ t. omega (arith, its_tag h.1)))
text_node sh ns parent i e (element name attrs k r) h l =
    rw (ne_eqb (get_or sh (place_at ns i) 0) 4 (λ t. omega (arith, its_tag h.1)))

-- the pieces of `text_of`, by number
pub text_pieces : (sh ns : Bytes) (parent i e : ℕ) (f : Forest) → Rep sh ns parent i e f
    → text_of f ≡ total [] (λ (x y : Bytes). x ++ y) (λ (j : ℕ). text_at sh (place_at ns j)) (e - i) i
unfolding text_of
text_pieces sh ns =
    total_rep [] (λ (x y : Bytes). x ++ y) (λ (x : Bytes). refl) append_assoc (λ (j : ℕ). text_at sh (place_at ns j)) sh ns text_of refl
    (text_node sh ns)
