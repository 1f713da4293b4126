-- The nodes that the writers are given: an element's children, the nodes of a range, and both after scratch has changed.
use Prim.Native.Nat.{ℕ, ◌+◌, ◌≤◌, ◌<◌}
use native.Mathlib.Omega.{arith}
use mathlib.Core.Path.{◌≡◌, refl, ap, sym, subst, ◌∙◌}
use mathlib.Core.List.{List, ◌∷◌}
use lib.ListN.{get_or}
use Rattle.spec.specs.Bytes.{Bytes}
use Rattle.spec.specs.Tree.{Attr, Forest, nothing, element, kids_of}
use Rattle.spec.specs.Out.{Step}
use Rattle.spec.specs.Md.MDSerializer.{Ancestors, MDSerializer, write_kids}
use Rattle.spec.specs.declared.ctx.FormatOpts.{FormatOpts}
use Rattle.tree.specs.Memory.{place_at, end_at, parent_at, Kept}
use Rattle.tree.specs.Nodes.{body_at}
use Rattle.tree.specs.Represents.{attrs_behind, Rep, Around, head_of, rest_of}
use Rattle.tree.proofs.Firsts.{First, first, rep_le}
use Rattle.tree.proofs.Frames.{rep_kept, around_kept, end_kept, kept_in, kept_then}
use Rattle.text.specs.Writes.{Writes}
use Rattle.text.specs.Writes.{Wrote}
use Rattle.nodes.specs.Stands.{ElementAt, Placed, Placeds, PlacedNode, NodeAt}
use Rattle.serializer.specs.Writers.{WritesForest, WritesElement}
use Rattle.nodes.proofs.Numbers.{node_first}
use Rattle.nodes.proofs.Interrupts.{element_node, element_kids}
use Rattle.elements.proofs.Languages.{around_it}

-- ---- an element

module _ {sh ns : Bytes} {i : ℕ} {name : Bytes} {attrs : List Attr} {kids : Forest} (x : ElementAt sh ns i name attrs kids) where
  pub element_later : i < end_at ns i
  element_later = omega (arith, rep_le sh ns i (i + 1) (end_at ns i) kids x.kids_are)

  -- the element alone
  pub element_alone : Rep sh ns (parent_at ns i) i (end_at ns i) (element name attrs kids nothing)
  unfolding Rep
  element_alone = (x.inside, x.field, x.attrs_are, refl, x.kids_are, refl)

module _ {sh ns : Bytes} {i : ℕ} (p : Placed sh ns i) where
  pub placed_node : NodeAt sh ns i
  placed_node = element_node p.0.3

  -- its children, where it ends at d
  pub placed_kids : {d : ℕ} → d ≡ end_at ns i → Placeds sh ns (i + 1) d
  placed_kids {d} q =
      record {
        parent = i;
        forest = p.0.2;
        anc = p.0.1 ∷ p.1.0;
        positive = omega arith;
        rep = element_kids p.0.3 q;
        around = around_it p.1.0 p.0.3 p.1.1;
      }

  pub placed_alone : PlacedNode sh ns i
  placed_alone =
      record {
        later = element_later p.0.3;
        alone = record {
          parent = parent_at ns i;
          forest = element p.0.0 p.0.1 p.0.2 nothing;
          anc = p.1.0;
          positive = p.0.3.positive;
          rep = element_alone p.0.3;
          around = p.1.1;
        };
      }

-- ---- a range of siblings

module _ {sh ns : Bytes} {i e : ℕ} (p : Placeds sh ns i e) (l : i < e) where
  placeds_here : First sh ns p.parent i e p.forest
  placeds_here = first sh ns p.parent i e p.forest p.rep l

  pub placeds_at : NodeAt sh ns i
  placeds_at = node_first placeds_here

  pub placeds_later : i < end_at ns i
  placeds_later = placeds_here.later

  pub placeds_within : end_at ns i ≤ e
  placeds_within = placeds_here.within

  pub placeds_first : PlacedNode sh ns i
  placeds_first =
      record {
        later = placeds_here.later;
        alone = record { parent = p.parent; forest = head_of p.forest; anc = p.anc; positive = p.positive; rep = placeds_here.alone; around = p.around };
      }

  pub placeds_on : Placeds sh ns (end_at ns i) e
  placeds_on =
      record {
        parent = p.parent;
        forest = rest_of p.forest;
        anc = p.anc;
        positive = omega (arith, placeds_here.later);
        rep = placeds_here.after;
        around = p.around;
      }

pub node_stands : {sh ns : Bytes} {i : ℕ} → PlacedNode sh ns i → NodeAt sh ns i
node_stands p = placeds_at p.alone p.later

-- the tag in the field of a node
pub tag_is : (sh ns : Bytes) (i : ℕ) {p g : ℕ} → g ≡ get_or sh p 0 → p ≡ place_at ns i → g ≡ 1 → get_or sh (place_at ns i) 0 ≡ 1
tag_is sh ns i e q t = omega (arith, t, e ∙ ap (λ (k : ℕ). get_or sh k 0) q)

-- a node that is an element, by its field
module _ (sh ns : Bytes) (parent i e : ℕ) (f : Forest) (h : Rep sh ns parent i e f) (l : i < e) (o : 0 < i) (t : get_or sh (place_at ns i) 0 ≡ 1) where
  pub node_element : ElementAt sh ns i (body_at sh (place_at ns i)) (attrs_behind sh (place_at ns i)) (kids_of f)
  unfolding Rep head_of
  node_element =
      let a = first sh ns parent i e f h l in
      let g : Rep sh ns parent i (end_at ns i) (element (body_at sh (place_at ns i)) (attrs_behind sh (place_at ns i)) (kids_of f) nothing) = subst (λ (x : Forest). Rep sh ns parent i (end_at ns i) (head_of x)) (a.element_is t) a.alone in
      record { positive = o; inside = g.0; field = g.1; attrs_are = refl; kids_are = g.4 }

module _ {sh ns : Bytes} {i : ℕ} (p : PlacedNode sh ns i) (t : get_or sh (place_at ns i) 0 ≡ 1) where
  pub node_placed : Placed sh ns i
  node_placed =
      let a = p.alone in
      let k = (first sh ns a.parent i (end_at ns i) a.forest a.rep p.later).parent_is in (
        (body_at sh (place_at ns i), attrs_behind sh (place_at ns i), kids_of a.forest, node_element sh ns a.parent i (end_at ns i) a.forest a.rep p.later a.positive t),
        (a.anc, subst (λ (q : ℕ). Around sh ns q a.anc) (sym k) a.around),
      )

-- ---- after scratch has changed

module _ {from to : ℕ} {a b : Bytes} (k : Kept from to a b) where
  pub placeds_kept : {sh : Bytes} {i e : ℕ} → Placeds sh a i e → Placeds sh b i e
  placeds_kept {sh} {i} {e} p =
      record {
        parent = p.parent;
        forest = p.forest;
        anc = p.anc;
        positive = p.positive;
        rep = rep_kept k sh p.parent i e p.forest p.rep;
        around = around_kept k sh p.parent p.anc p.around;
      }

  pub node_kept : {sh : Bytes} {i : ℕ} → PlacedNode sh a i → PlacedNode sh b i
  node_kept {sh} {i} p =
      record {
        later = omega (arith, end_kept k i, p.later);
        alone = subst (λ (e : ℕ). Placeds sh b i e) (sym (end_kept k i)) (placeds_kept p.alone);
      }

  -- what is written for the nodes as they stand now is written for the nodes as they were
  pub writes_before : {sh : Bytes} {i : ℕ} {step : Ancestors → Forest → Step} {t : Bytes} {room : ℕ} {after : Bytes} {r : Wrote}
      → WritesForest sh b i (end_at b i) step t room after r → WritesForest sh a i (end_at a i) step t room after r
  writes_before {sh} {i} w =
      record {
        for = λ parent f anc h q. w.for parent f anc (subst (λ (e : ℕ). Rep sh b parent i e f) (sym (end_kept k i)) (rep_kept k sh parent i (end_at a i) f h)) (around_kept k sh parent anc q);
      }

-- node i of the siblings up to `to` has changed scratch last
pub kept_on : {from to i : ℕ} {sh a b d : Bytes} → Kept from to a b → from ≤ i → Placeds sh a i to → i < to → Kept i (end_at b i) b d → Kept from to a d
kept_on {i = i} k l p h w = kept_then k (kept_in l (omega (arith, end_kept k i, placeds_within p h)) w)

-- the children of an element, with other options that are the same
pub kids_as : (self : MDSerializer) {o p : FormatOpts} {sh ns : Bytes} {i : ℕ} {t : Bytes} {room : ℕ} {after : Bytes} {r : Wrote} → o ≡ p
    → WritesElement sh ns i (λ anc name attrs kids. write_kids self anc o (element name attrs kids nothing)) t room after r
    → (name : Bytes) (attrs : List Attr) (kids : Forest) (anc : Ancestors) → ElementAt sh ns i name attrs kids → Around sh ns (parent_at ns i) anc
    → Writes room after r (write_kids self anc p (element name attrs kids nothing) t)
kids_as self {t = t} {room} {after} {r} e w name attrs kids anc x h =
    subst (λ (q : FormatOpts). Writes room after r (write_kids self anc q (element name attrs kids nothing) t)) e (w.for name attrs kids anc x h)

-- what is written for the element is written for the node that stands alone
pub alone_writes : {sh ns : Bytes} {i : ℕ} (p : PlacedNode sh ns i) (t : get_or sh (place_at ns i) 0 ≡ 1) {step : Ancestors → Bytes → List Attr → Forest → Step} {u : Bytes} {room : ℕ} {after : Bytes} {r : Wrote}
    → WritesElement sh ns i step u room after r → (parent : ℕ) (f : Forest) (anc : Ancestors) → Rep sh ns parent i (end_at ns i) f → Around sh ns parent anc
    → Writes room after r (step anc (body_at sh (place_at ns i)) (attrs_behind sh (place_at ns i)) (kids_of f) u)
alone_writes {sh} {ns} {i} p t w parent f anc h a =
    w.for (body_at sh (place_at ns i)) (attrs_behind sh (place_at ns i)) (kids_of f) anc (node_element sh ns parent i (end_at ns i) f h p.later p.alone.positive t)
    (subst (λ (q : ℕ). Around sh ns q anc) (sym (first sh ns parent i (end_at ns i) f h p.later).parent_is) a)
