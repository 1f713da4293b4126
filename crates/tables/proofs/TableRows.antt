-- The rows of a table, found by number.
use Prim.Native.Nat.{ℕ, ◌+◌, ◌%◌, ◌≤◌, ◌<◌}
use native.Mathlib.Omega.{arith}
use mathlib.Core.Path.{◌≡◌, refl, ap, ◌∙◌, sym, subst}
use mathlib.Core.Logic.{⊎_elim}
use mathlib.Core.Bool.{Bool, true, false, cond}
use mathlib.Core.List.{List, [], ◌∷◌, ◌++◌}
use lib.Dec.{eqb}
use borrow.Author.Tests.{eqb-true, eqb-false}
use Rattle.spec.specs.Bytes.{Bytes}
use Rattle.spec.specs.Names.{tag_of}
use Rattle.spec.specs.Tree.{Attr, Forest, nothing, text, comment, element}
use Rattle.spec.specs.Md.MDSerializer.{Ancestors}
use Rattle.spec.specs.Md.Elements.List.{name_of}
use Rattle.spec.specs.Md.Elements.Table.{Cell, cells_of, rows_of}
use Rattle.tree.specs.Memory.{place_at, end_at, parent_at, Kept}
use Rattle.tree.specs.Represents.{FieldAt, attrs_behind, Rep, Around}
use Rattle.tree.specs.Nodes.{name_at}
use Rattle.spec.proofs.Order.{le_or_lt}
use Rattle.tree.proofs.Firsts.{rep_le}
use Rattle.tree.proofs.Kin.{first_name}
use Rattle.tree.proofs.Ancestry.{around_in}
use Rattle.tree.proofs.Frames.{entry_kept, place_kept, end_kept, parent_kept, rep_kept, around_kept}
use Rattle.nodes.specs.Stands.{NodeAt, ElementAt}
use Rattle.tables.specs.Rows.{RowAt, NoRow, Rows, RowsAt}
use Rattle.nodes.proofs.Siblings.{its_node}
use Rattle.nodes.proofs.Interrupts.{element_name, element_node}

-- ---- ranges without rows, and ranges that join

module _ (sh ns : Bytes) where
  pub no_row_here : (i : ℕ) → NoRow sh ns i i
  no_row_here i = record { ordered = omega arith; nodes = λ j l m. absurd (omega arith); others = λ j l m q. absurd (omega arith) }

  pub no_row_node : (i : ℕ) → NodeAt sh ns i → (name_at sh (place_at ns i) ≡ 17 → ⊥) → NoRow sh ns i (i + 1)
  no_row_node i n o =
      record {
        ordered = omega arith;
        nodes = λ j l m. let e : i ≡ j = omega arith in subst (NodeAt sh ns) e n;
        others = λ j l m. let e : i ≡ j = omega arith in subst (λ (k : ℕ). name_at sh (place_at ns k) ≡ 17 → ⊥) e o;
      }

  no_row_then : (i d e : ℕ) → NoRow sh ns i d → NoRow sh ns d e → NoRow sh ns i e
  no_row_then i d e p q =
      record {
        ordered = omega (arith, p.ordered, q.ordered);
        nodes = λ j l m. ⊎_elim (λ (o : d ≤ j). q.nodes j o m) (λ (o : j < d). p.nodes j l o) (le_or_lt d j);
        others = λ j l m. ⊎_elim (λ (o : d ≤ j). q.others j o m) (λ (o : j < d). p.others j l o) (le_or_lt d j);
      }

  pub rows_before : (i d e : ℕ) (rows : List (List Cell)) → NoRow sh ns i d → Rows sh ns d e rows → Rows sh ns i e rows
  unfolding Rows
  rows_before i d e [] p q = no_row_then i d e p q
  rows_before i d e (row ∷ rows) p q = (q.0, no_row_then i d q.0 p q.1, q.2, q.3)

  pub rows_then : (i d e : ℕ) (xs ys : List (List Cell)) → Rows sh ns i d xs → Rows sh ns d e ys → Rows sh ns i e (xs ++ ys)
  unfolding Rows
  rows_then i d e [] ys p q = rows_before i d e ys p q
  rows_then i d e (row ∷ xs) ys p q = (p.0, p.1, p.2, rows_then (p.0 + 1) d e xs ys p.3 q)

  pub rows_le : (i e : ℕ) (rows : List (List Cell)) → Rows sh ns i e rows → i ≤ e
  unfolding Rows
  rows_le i e [] p = p.ordered
  rows_le i e (row ∷ rows) p = omega (arith, p.1.ordered, rows_le (p.0 + 1) e rows p.3)

-- the rows of which node r is the first
module _ (sh ns : Bytes) (r e : ℕ) where
  pub rows_at : (rows : List (List Cell)) → RowsAt sh ns r e rows → Rows sh ns r e rows
  unfolding Rows RowsAt
  rows_at [] x = subst (NoRow sh ns r) x (no_row_here sh ns r)
  rows_at (row ∷ rows) x = (r, no_row_here sh ns r, x.0, x.1)

  pub rows_at_le : (rows : List (List Cell)) → RowsAt sh ns r e rows → r ≤ e
  rows_at_le rows x = rows_le sh ns r e rows (rows_at rows x)

-- ---- the next row, from number i on

pub row_name : {sh ns : Bytes} {r : ℕ} {row : List Cell} → RowAt sh ns r row → name_at sh (place_at ns r) ≡ 17
row_name x = element_name x.is_element ∙ x.is_row

module _ (sh ns : Bytes) (i e : ℕ) where
  pub rows_node : (rows : List (List Cell)) → Rows sh ns i e rows → i < e → NodeAt sh ns i
  unfolding Rows
  rows_node [] x l = x.nodes i (omega arith) l
  rows_node (row ∷ rows) x l =
      ⊎_elim (λ (o : x.0 ≤ i). let q : x.0 ≡ i = omega (arith, x.1.ordered) in subst (NodeAt sh ns) q (element_node x.2.is_element))
      (λ (o : i < x.0). x.1.nodes i (omega arith) o) (le_or_lt x.0 i)

  -- node i is a row
  pub rows_here : (rows : List (List Cell)) → Rows sh ns i e rows → i < e → name_at sh (place_at ns i) ≡ 17 → RowsAt sh ns i e rows
  unfolding Rows RowsAt
  rows_here [] x l n = absurd (x.others i (omega arith) l n)
  rows_here (row ∷ rows) x l n =
      ⊎_elim
      (λ (o : x.0 ≤ i).
      let q : x.0 ≡ i = omega (arith, x.1.ordered) in
      (subst (λ (r : ℕ). RowAt sh ns r row) q x.2, subst (λ (r : ℕ). Rows sh ns (r + 1) e rows) q x.3))
      (λ (o : i < x.0). absurd (x.1.others i (omega arith) o n)) (le_or_lt x.0 i)

  -- node i is none
  no_row_on : (d : ℕ) → NoRow sh ns i d → i < d → NoRow sh ns (i + 1) d
  no_row_on d x l = record { ordered = omega arith; nodes = λ j o. x.nodes j (omega arith); others = λ j o. x.others j (omega arith) }

  pub rows_on : (rows : List (List Cell)) → Rows sh ns i e rows → i < e → (name_at sh (place_at ns i) ≡ 17 → ⊥) → Rows sh ns (i + 1) e rows
  unfolding Rows
  rows_on [] x l n = no_row_on e x l
  rows_on (row ∷ rows) x l n =
      ⊎_elim
      (λ (o : x.0 ≤ i).
      let q : x.0 ≡ i = omega (arith, x.1.ordered) in
      absurd (n (subst (λ (r : ℕ). name_at sh (place_at ns r) ≡ 17) q (row_name x.2))))
      (λ (o : i < x.0). (x.0, no_row_on x.0 x.1 o, x.2, x.3)) (le_or_lt x.0 i)

  pub rows_none : (rows : List (List Cell)) → Rows sh ns i e rows → e ≤ i → rows ≡ []
  unfolding Rows
  rows_none [] x l = refl
  rows_none (row ∷ rows) x l = absurd (omega (arith, x.1.ordered, rows_le sh ns (x.0 + 1) e rows x.3))

  pub rows_ended : (rows : List (List Cell)) → Rows sh ns i e rows → e ≤ i → RowsAt sh ns e e rows
  unfolding RowsAt
  rows_ended rows x l = subst (RowsAt sh ns e e) (sym (rows_none rows x l)) refl

-- ---- the rows of a forest

module _ (sh ns : Bytes) where
  not_row : (parent i e : ℕ) (f : Forest) → Rep sh ns parent i e f → i < e → (name_of f ≡ 17 → ⊥) → NoRow sh ns i (i + 1)
  not_row parent i e f h l o =
      no_row_node sh ns i (its_node sh ns parent i e f h l) (λ q. o (sym (first_name sh ns parent i e f h l) ∙ q))

  -- an element, and the rows behind its number
  element_row : (parent i e : ℕ) (name : Bytes) (attrs : List Attr) (kids rest : Forest) (anc : Ancestors) → Rep sh ns parent i e (element name attrs kids rest)
      → Around sh ns parent anc → 0 < i → (rows : List (List Cell)) → Rows sh ns (i + 1) e rows
      → Rows sh ns i e (cond (eqb (tag_of name) 17) (cells_of (attrs ∷ anc) kids ∷ []) [] ++ rows)
  unfolding Rep Rows name_of
  element_row parent i e name attrs kids rest anc h a p rows s = go (eqb (tag_of name) 17) refl
    where
      go : (t : Bool) → eqb (tag_of name) 17 ≡ t → Rows sh ns i e (cond t (cells_of (attrs ∷ anc) kids ∷ []) [] ++ rows)
      go true q = (
        i,
        no_row_here sh ns i,
        record {
          name = name;
          attrs = attrs;
          kids = kids;
          anc = anc;
          is_element = record { positive = p; inside = h.0; field = h.1; attrs_are = h.2; kids_are = h.4 };
          is_row = eqb-true (tag_of name) 17 q;
          around = subst (λ (k : ℕ). Around sh ns k anc) (sym h.3) a;
          cells_are = refl;
        },
        s,
      )
      go false q = rows_before sh ns i (i + 1) e rows (not_row parent i e (element name attrs kids rest) h (omega (arith, rows_le sh ns (i + 1) e rows s)) (eqb-false (tag_of name) 17 q)) s

  pub rows_of_lem : (parent i e : ℕ) (f : Forest) (anc : Ancestors) → Rep sh ns parent i e f → Around sh ns parent anc → 0 < i → Rows sh ns i e (rows_of anc f)
  unfolding Rep Rows rows_of name_of
  rows_of_lem parent i e nothing anc h a p = subst (NoRow sh ns i) h (no_row_here sh ns i)
  rows_of_lem parent i e (text s r) anc h a p =
      let l : i < e = omega (arith, rep_le sh ns parent (i + 1) e r h.4) in
      rows_before sh ns i (i + 1) e (rows_of anc r) (not_row parent i e (text s r) h l (λ q. omega (arith, q)))
      (rows_of_lem parent (i + 1) e r anc h.4 a (omega arith))
  rows_of_lem parent i e (comment s r) anc h a p =
      let l : i < e = omega (arith, rep_le sh ns parent (i + 1) e r h.4) in
      rows_before sh ns i (i + 1) e (rows_of anc r) (not_row parent i e (comment s r) h l (λ q. omega (arith, q)))
      (rows_of_lem parent (i + 1) e r anc h.4 a (omega arith))
  rows_of_lem parent i e (element name attrs k r) anc h a p =
      let l : i + 1 ≤ end_at ns i = rep_le sh ns i (i + 1) (end_at ns i) k h.4 in
      let b : Around sh ns i (attrs ∷ anc) = around_in sh ns i attrs anc p h.0 h.1.head h.2 (subst (λ (j : ℕ). Around sh ns j anc) (sym h.3) a) in
      element_row parent i e name attrs k r anc h a p (rows_of (attrs ∷ anc) k ++ rows_of anc r)
      (rows_then sh ns (i + 1) (end_at ns i) e (rows_of (attrs ∷ anc) k) (rows_of anc r) (rows_of_lem i (i + 1) (end_at ns i) k (attrs ∷ anc) h.4 b (omega arith))
      (rows_of_lem parent (end_at ns i) e r anc h.5 a (omega arith)))

-- ---- what stores only in scratch keeps the rows

module _ {from to : ℕ} {a b : Bytes} (p : Kept from to a b) (sh : Bytes) where
  pub node_kept : (i : ℕ) → NodeAt sh a i → NodeAt sh b i
  node_kept i n =
      record {
        inside = omega (arith, p.long, n.inside);
        placed = omega (arith, place_kept p i, n.placed);
        numbered = ap (λ (e : ℕ). e % 256) (entry_kept p i) ∙ (n.numbered ∙ ap (name_at sh) (sym (place_kept p i)));
      }

  pub element_kept : (i : ℕ) (name : Bytes) (attrs : List Attr) (kids : Forest) → ElementAt sh a i name attrs kids → ElementAt sh b i name attrs kids
  element_kept i name attrs kids x =
      record {
        positive = x.positive;
        inside = omega (arith, p.long, x.inside);
        field = subst (λ (q : ℕ). FieldAt sh q 1 name) (sym (entry_kept p i)) x.field;
        attrs_are = x.attrs_are ∙ ap (attrs_behind sh) (sym (place_kept p i));
        kids_are = subst (λ (j : ℕ). Rep sh b i (i + 1) j kids) (sym (end_kept p i)) (rep_kept p sh i (i + 1) (end_at a i) kids x.kids_are);
      }

  pub row_kept : (r : ℕ) (row : List Cell) → RowAt sh a r row → RowAt sh b r row
  row_kept r row x =
      record {
        name = x.name;
        attrs = x.attrs;
        kids = x.kids;
        anc = x.anc;
        is_element = element_kept r x.name x.attrs x.kids x.is_element;
        is_row = x.is_row;
        around = subst (λ (q : ℕ). Around sh b q x.anc) (sym (parent_kept p r)) (around_kept p sh (parent_at a r) x.anc x.around);
        cells_are = x.cells_are;
      }

  no_row_kept : (i e : ℕ) → NoRow sh a i e → NoRow sh b i e
  no_row_kept i e x =
      record {
        ordered = x.ordered;
        nodes = λ j l m. node_kept j (x.nodes j l m);
        others = λ j l m q. x.others j l m (ap (name_at sh) (sym (place_kept p j)) ∙ q);
      }

  pub rows_kept : (i e : ℕ) (rows : List (List Cell)) → Rows sh a i e rows → Rows sh b i e rows
  unfolding Rows
  rows_kept i e [] x = no_row_kept i e x
  rows_kept i e (row ∷ rows) x = (x.0, no_row_kept i x.0 x.1, row_kept x.0 row x.2, rows_kept (x.0 + 1) e rows x.3)

  pub rows_at_kept : (r e : ℕ) (rows : List (List Cell)) → RowsAt sh a r e rows → RowsAt sh b r e rows
  unfolding RowsAt
  rows_at_kept r e [] x = x
  rows_at_kept r e (row ∷ rows) x = (row_kept r row x.0, rows_kept (r + 1) e rows x.1)

-- ---- in a subtree no parent is before it

module _ (sh ns : Bytes) (d c : ℕ) where
  parents_from : (parent i e : ℕ) (f : Forest) → Rep sh ns parent i e f → d ≤ parent → d ≤ i → i ≤ c → c < e → d ≤ parent_at ns c
  unfolding Rep
  parents_from parent i e nothing h q l m n = absurd (omega arith)
  parents_from parent i e (text s r) h q l m n =
      ⊎_elim (λ (o : c ≤ i). let z : i ≡ c = omega arith in subst (λ (k : ℕ). d ≤ parent_at ns k) z (omega (arith, h.3)))
      (λ (o : i < c). parents_from parent (i + 1) e r h.4 q (omega arith) (omega arith) n) (le_or_lt c i)
  parents_from parent i e (comment s r) h q l m n =
      ⊎_elim (λ (o : c ≤ i). let z : i ≡ c = omega arith in subst (λ (k : ℕ). d ≤ parent_at ns k) z (omega (arith, h.3)))
      (λ (o : i < c). parents_from parent (i + 1) e r h.4 q (omega arith) (omega arith) n) (le_or_lt c i)
  parents_from parent i e (element name attrs k r) h q l m n =
      ⊎_elim (λ (o : c ≤ i). let z : i ≡ c = omega arith in subst (λ (k : ℕ). d ≤ parent_at ns k) z (omega (arith, h.3)))
      (λ (o : i < c).
      ⊎_elim
      (λ (u : end_at ns i ≤ c). parents_from parent (end_at ns i) e r h.5 q (omega (arith, rep_le sh ns i (i + 1) (end_at ns i) k h.4)) u n)
      (λ (u : c < end_at ns i). parents_from i (i + 1) (end_at ns i) k h.4 l (omega arith) (omega arith) u)
      (le_or_lt (end_at ns i) c))
      (le_or_lt c i)

  pub parents_in : (e : ℕ) (kids : Forest) → Rep sh ns d (d + 1) e kids → d < c → c < e → d ≤ parent_at ns c
  parents_in e kids h l m = parents_from d (d + 1) e kids h (omega arith) (omega arith) (omega arith) m
