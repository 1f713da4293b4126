-- The first element of a list, and whether the list can interrupt a paragraph.
use Prim.Native.Nat.{ℕ, ◌+◌, ◌<◌}
use native.Mathlib.Omega.{arith}
use mathlib.Core.Path.{◌≡◌, refl, ap, ◌∙◌, sym, subst}
use mathlib.Core.Bool.{true, false, not, ◌&&◌, ◌||◌}
use mathlib.Core.List.{List}
use lib.Dec.{eqb}
use lib.ListN.{get_or}
use borrow.Author.Tests.{eq-eqb, ne_eqb}
use Rattle.spec.specs.Bytes.{Bytes, ascii}
use Rattle.spec.specs.Names.{tag_of}
use Rattle.spec.specs.Tree.{Attr, Forest, nothing, text, comment, element, attr, kids_of}
use Rattle.spec.specs.Md.Elements.List.{has_text_before_list, number_or, number_of, start_of, can_interrupt_paragraph}
use Rattle.tree.specs.Memory.{place_at, end_at}
use Rattle.tree.specs.Represents.{Rep, attrs_behind, rest_of}
use Rattle.tree.specs.Nodes.{name_at}
use Rattle.tree.proofs.Firsts.{first, its_tag, its_body}
use Rattle.nodes.specs.Stands.{NodeAt, ElementAt}
use Rattle.nodes.specs.FirstElement.{first_element}

-- ---- the first element

module _ (sh ns : Bytes) (parent i e : ℕ) where
  pub element_first : (f : Forest) → Rep sh ns parent i e f → i < e → get_or sh (place_at ns i) 0 ≡ 1 → first_element f ≡ f
  unfolding Rep first_element
  element_first nothing h l t = refl
  element_first (text s r) h l t = absurd (omega (arith, its_tag h.1))
  element_first (comment s r) h l t = absurd (omega (arith, its_tag h.1))
  element_first (element name attrs k r) h l t = refl

  pub element_on : (f : Forest) → Rep sh ns parent i e f → (get_or sh (place_at ns i) 0 ≡ 1 → ⊥) → first_element f ≡ first_element (rest_of f)
  unfolding Rep first_element rest_of
  element_on nothing h t = refl
  element_on (text s r) h t = refl
  element_on (comment s r) h t = refl
  element_on (element name attrs k r) h t = absurd (t (its_tag h.1))

pub element_name : {sh ns : Bytes} {i : ℕ} {name : Bytes} {attrs : List Attr} {kids : Forest} → ElementAt sh ns i name attrs kids
    → name_at sh (place_at ns i) ≡ tag_of name
unfolding name_at
element_name {sh} {ns} {i} x = rw (eq-eqb (get_or sh (place_at ns i) 0) 1 (its_tag x.field)) (ap tag_of (sym (its_body x.field)))

pub element_node : {sh ns : Bytes} {i : ℕ} {name : Bytes} {attrs : List Attr} {kids : Forest} → ElementAt sh ns i name attrs kids → NodeAt sh ns i
element_node x = record { inside = x.inside; placed = x.field.head; numbered = x.field.number }

-- its children, where it ends at d
pub element_kids : {sh ns : Bytes} {i d : ℕ} {name : Bytes} {attrs : List Attr} {kids : Forest} → ElementAt sh ns i name attrs kids → d ≡ end_at ns i
    → Rep sh ns i (i + 1) d kids
element_kids {sh} {ns} {i} {d} {name} {attrs} {kids} x q = subst (λ (k : ℕ). Rep sh ns i (i + 1) k kids) (sym q) x.kids_are

-- ---- `can_interrupt_paragraph`

can_first : (n : ℕ) (attrs : List Attr) (f : Forest) → can_interrupt_paragraph n attrs f ≡ can_interrupt_paragraph n attrs (first_element f)
unfolding can_interrupt_paragraph first_element
can_first n attrs nothing = refl
can_first n attrs (text s r) = can_first n attrs r
can_first n attrs (comment s r) = can_first n attrs r
can_first n attrs (element name more k r) = refl

pub can_none : (n : ℕ) (attrs : List Attr) (f : Forest) → first_element f ≡ nothing → can_interrupt_paragraph n attrs f ≡ false
unfolding can_interrupt_paragraph
can_none n attrs f e = can_first n attrs f ∙ ap (can_interrupt_paragraph n attrs) e

-- the first element of the list's children is node li
module _ (sh ns : Bytes) (n : ℕ) (attrs : List Attr) (parent li e : ℕ) (f : Forest) (h : Rep sh ns parent li e (first_element f)) where
  module _ (l : li < e) (t : get_or sh (place_at ns li) 0 ≡ 1) where
    can-at :
        can_interrupt_paragraph n attrs f
        ≡ (eqb (name_at sh (place_at ns li)) 16
        && (has_text_before_list (kids_of (first_element f))
        && (not (eqb n 12) || eqb (number_or (number_of (attr (ascii "value") (attrs_behind sh (place_at ns li)))) (start_of attrs)) 1)))
    unfolding can_interrupt_paragraph name_at
    can-at =
        can_first n attrs f
        ∙ (ap (can_interrupt_paragraph n attrs) ((first sh ns parent li e (first_element f) h l).element_is t)
        ∙ rw (eq-eqb (get_or sh (place_at ns li) 0) 1 t))

    pub can_other : (name_at sh (place_at ns li) ≡ 16 → ⊥) → can_interrupt_paragraph n attrs f ≡ false
    can_other q = can-at ∙ rw (ne_eqb (name_at sh (place_at ns li)) 16 q)

    module _ (q : name_at sh (place_at ns li) ≡ 16) where
      pub can_blank : has_text_before_list (kids_of (first_element f)) ≡ false → can_interrupt_paragraph n attrs f ≡ false
      can_blank b = can-at ∙ rw (eq-eqb (name_at sh (place_at ns li)) 16 q, b)

      module _ (b : has_text_before_list (kids_of (first_element f)) ≡ true) where
        pub can_bullet : (n ≡ 12 → ⊥) → can_interrupt_paragraph n attrs f ≡ true
        can_bullet o = can-at ∙ rw (eq-eqb (name_at sh (place_at ns li)) 16 q, b, ne_eqb n 12 o)

        pub can_number : n ≡ 12
            → can_interrupt_paragraph n attrs f
            ≡ eqb (number_or (number_of (attr (ascii "value") (attrs_behind sh (place_at ns li)))) (start_of attrs)) 1
        can_number o = can-at ∙ rw (eq-eqb (name_at sh (place_at ns li)) 16 q, b, eq-eqb n 12 o)
