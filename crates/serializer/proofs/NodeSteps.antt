-- What `write` does at one node, and in an element.
use Prim.Native.Nat.{ℕ, ◌+◌, ◌<◌}
use native.Mathlib.Omega.{arith}
use mathlib.Core.Path.{◌≡◌, refl, ap, sym, subst, ◌∙◌}
use mathlib.Core.Bool.{Bool, true, false, not, ◌&&◌, and-eq-true_iff}
use mathlib.Core.List.{List, ◌∷◌}
use lib.ListN.{get_or}
use lib.Dec.{eqb}
use borrow.Author.Tests.{eq-eqb, ne_eqb, eqb-false, not-true}
use Rattle.spec.specs.Bytes.{Bytes, among}
use Rattle.spec.specs.Names.{tag_of}
use Rattle.spec.specs.Tree.{Attr, Forest, nothing, text, comment, element, kids_of, attrs_of}
use Rattle.spec.specs.Out.{keep, and_then}
use Rattle.spec.specs.Md.TextUtils.{push_normalized_text, trim_space}
use Rattle.spec.specs.Md.MDSerializer.{Ancestors, MDSerializer, write_kids}
use Rattle.spec.specs.Md.Serializer.{write_nodes, write_element_node, in_element, has_writer, opened, closed, write_element}
use Rattle.spec.specs.declared.ctx.FormatOpts.{FormatOpts}
use Rattle.tree.specs.Memory.{place_at, end_at}
use Rattle.tree.specs.Nodes.{body_at}
use Rattle.tree.specs.Represents.{Rep, attrs_behind}
use Rattle.tree.proofs.Firsts.{first, ended, its_tag, its_body}
use Rattle.text.proofs.Writing.{yes, no}
use Rattle.text.specs.Writes.{Wrote, Writes}
use Rattle.nodes.specs.TextStep.{text_step}
use Rattle.nodes.proofs.Spots.{then_keep}

-- ---- the node that stands alone in the range from i

module _ (sh ns : Bytes) (parent i : ℕ) (l : i < end_at ns i) where
  -- an element
  pub alone_element : (f : Forest) → Rep sh ns parent i (end_at ns i) f → get_or sh (place_at ns i) 0 ≡ 1
      → f ≡ element (body_at sh (place_at ns i)) (attrs_behind sh (place_at ns i)) (kids_of f) nothing
  alone_element f h t =
      let k = first sh ns parent i (end_at ns i) f h l in
      k.element_is t ∙ ap (element (body_at sh (place_at ns i)) (attrs_behind sh (place_at ns i)) (kids_of f)) (ended sh ns parent (end_at ns i) (end_at ns i) _ k.after (omega arith))

  -- no element
  pub node_text : (self : MDSerializer) (anc : Ancestors) (opts : FormatOpts) (t : Bytes) (f : Forest) → Rep sh ns parent i (end_at ns i) f
      → (get_or sh (place_at ns i) 0 ≡ 1 → ⊥) → write_nodes self anc opts f t ≡ text_step opts sh (place_at ns i) t
  unfolding Rep write_nodes text_step
  node_text self anc opts t nothing h u = absurd (omega arith)
  node_text self anc opts t (text s r) h u =
      rw (eq-eqb (get_or sh (place_at ns i) 0) 4 (its_tag h.1))
      (ap (λ (g : Forest). and_then (push_normalized_text s opts t) (write_nodes self anc opts g)) (ended sh ns parent (i + 1) (end_at ns i) r h.4 (omega (arith, h.2)))
      ∙ then_keep (push_normalized_text s opts t) ∙ ap (λ (b : Bytes). push_normalized_text b opts t) (its_body h.1))
  node_text self anc opts t (comment s r) h u =
      rw (ne_eqb (get_or sh (place_at ns i) 0) 4 (λ x. omega (arith, its_tag h.1)))
      (ap (λ (g : Forest). write_nodes self anc opts g t) (ended sh ns parent (i + 1) (end_at ns i) r h.4 (omega (arith, h.2))))
  node_text self anc opts t (element name attrs k r) h u = absurd (u (its_tag h.1))

-- a level is left, and the nodes are one text
pub some_one : (levels : ℕ) (one : Bool) → (not (eqb levels 0) && one) ≡ true → (0 < levels) × (one ≡ true)
some_one levels one e =
    let b = (and-eq-true_iff (not (eqb levels 0)) one).0 e in
    (omega (arith, eqb-false levels 0 (not-true (eqb levels 0) b.0)), b.1)

-- one text is all from i up to e
pub one_is : (sh ns : Bytes) (parent i e : ℕ) → i + 1 ≡ e → get_or sh (place_at ns i) 0 ≡ 4
    → (self : MDSerializer) (anc : Ancestors) (opts : FormatOpts) (t : Bytes) (f : Forest) → Rep sh ns parent i e f
    → write_nodes self anc opts f t ≡ text_step opts sh (place_at ns i) t
one_is sh ns parent i e n g self anc opts t f h =
    let k = first sh ns parent i e f h (omega arith) in
    let q : e ≡ end_at ns i = omega (arith, k.later, k.within) in
    node_text sh ns parent i k.later self anc opts t f (subst (λ (j : ℕ). Rep sh ns parent i j f) q h) (λ x. omega arith)

-- an element alone
module _ (self : MDSerializer) (anc : Ancestors) (opts : FormatOpts) (name : Bytes) (attrs : List Attr) (kids : Forest) (t : Bytes) where
  pub element_skipped : among name self.skip_tags ≡ true → write_nodes self anc opts (element name attrs kids nothing) t ≡ keep t
  unfolding write_nodes write_element_node
  element_skipped e = rw e (then_keep (keep t))

  pub element_opened : among name self.skip_tags ≡ false
      → write_nodes self anc opts (element name attrs kids nothing) t ≡ and_then (opened opts (tag_of name) attrs kids t) (in_element self anc opts name attrs kids)
  unfolding write_nodes write_element_node
  element_opened e = then_keep _ ∙ no (keep t) (and_then (opened opts (tag_of name) attrs kids t) (in_element self anc opts name attrs kids)) e

  -- ---- in an element

  pub inside_writer : (not opts.skip_md && has_writer opts (tag_of name)) ≡ true → in_element self anc opts name attrs kids t ≡ write_element self anc opts name attrs kids t
  unfolding in_element
  inside_writer e = yes _ _ e

  pub inside_plain : (not opts.skip_md && has_writer opts (tag_of name)) ≡ false
      → in_element self anc opts name attrs kids t ≡ and_then (self.below (attrs ∷ anc) opts kids t) (closed opts (tag_of name))
  unfolding in_element
  inside_plain e = no _ _ e

  pub kids_is : write_kids self anc opts (element name attrs kids nothing) t ≡ and_then (self.below (attrs ∷ anc) opts kids t) trim_space
  unfolding write_kids attrs_of kids_of
  kids_is = refl

-- whether an element has a writer, by the number of its name and options that are the same
pub writer_wanted : (name : Bytes) {u o : FormatOpts} {n : ℕ} {w b : Bool} → u ≡ o → n ≡ tag_of name → w ≡ has_writer u n → (not u.skip_md && w) ≡ b
    → (not o.skip_md && has_writer o (tag_of name)) ≡ b
writer_wanted name {u} {b = b} q e h k =
    subst (λ (o : FormatOpts). (not o.skip_md && has_writer o (tag_of name)) ≡ b) q
    (ap (λ (j : ℕ). not u.skip_md && has_writer u j) (sym e) ∙ ap (λ (x : Bool). not u.skip_md && x) (sym h) ∙ k)

-- the node that stands alone in the range from i is an element that is not left out
pub node_goes : (self : MDSerializer) (anc : Ancestors) (opts : FormatOpts) (t : Bytes) (sh ns : Bytes) (parent i : ℕ) → i < end_at ns i → (f : Forest) → Rep sh ns parent i (end_at ns i) f
    → get_or sh (place_at ns i) 0 ≡ 1 → among (body_at sh (place_at ns i)) self.skip_tags ≡ false
    → write_nodes self anc opts f t
    ≡ and_then (opened opts (tag_of (body_at sh (place_at ns i))) (attrs_behind sh (place_at ns i)) (kids_of f) t) (in_element self anc opts (body_at sh (place_at ns i)) (attrs_behind sh (place_at ns i)) (kids_of f))
node_goes self anc opts t sh ns parent i l f h g e =
    ap (λ (x : Forest). write_nodes self anc opts x t) (alone_element sh ns parent i l f h g)
    ∙ element_opened self anc opts (body_at sh (place_at ns i)) (attrs_behind sh (place_at ns i)) (kids_of f) t e

pub opened_as : (n : ℕ) (attrs : List Attr) (kids : Forest) (t : Bytes) {o p : FormatOpts} {room : ℕ} {after : Bytes} {r : Wrote} → o ≡ p
    → Writes room after r (opened o n attrs kids t) → Writes room after r (opened p n attrs kids t)
opened_as n attrs kids t {room = room} {after} {r} e w = subst (λ (q : FormatOpts). Writes room after r (opened q n attrs kids t)) e w
