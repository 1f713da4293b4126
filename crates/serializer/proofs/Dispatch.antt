-- The writer that an element's name chooses.
use Prim.Native.Nat.{ℕ}
use mathlib.Core.Path.{◌≡◌, ap, sym, ◌∙◌}
use mathlib.Core.Bool.{true, false}
use mathlib.Core.List.{List, [], ◌∷◌}
use borrow.Author.Tests.{eq-eqb, ne_eqb}
use Rattle.spec.specs.Bytes.{Bytes}
use Rattle.spec.specs.Names.{tag_of}
use Rattle.spec.specs.Tree.{Attr, Forest}
use Rattle.spec.specs.Out.{Out, Step, nested}
use Rattle.spec.specs.Md.MDSerializer.{Ancestors, MDSerializer}
use Rattle.spec.specs.Md.Serializer.{write_element}
use Rattle.spec.specs.Md.Elements.Blocks.{is_list}
use Rattle.spec.specs.Md.Elements.Code.{write_pre, write_code}
use Rattle.spec.specs.Md.Ctx.{emphasis_scope, include_node, inline, scope_of}
use Rattle.spec.specs.Md.Elements.Emphasis.{md_emphasis, write_emphasis}
use Rattle.spec.specs.Md.Elements.Image.{write_img}
use Rattle.spec.specs.Md.Elements.Link.{write_link}
use Rattle.spec.specs.Md.Elements.List.{write_list}
use Rattle.spec.specs.Md.Elements.Table.{write_table}
use Rattle.spec.specs.declared.ctx.FormatOpts.{FormatOpts}
use Rattle.elements.proofs.Links.{emphasis_is}
use Rattle.elements.specs.EmphasisStep.{emphasis_step}
use Rattle.text.specs.Writes.{Wrote, Writes}
use Rattle.text.proofs.Writing.{alike}

module _ (self : MDSerializer) (anc : Ancestors) (opts : FormatOpts) (name : Bytes) (attrs : List Attr) (kids : Forest) (t : Bytes) {n : ℕ} (q : n ≡ tag_of name) where
  pub by_list : is_list n ≡ true → write_element self anc opts name attrs kids t ≡ write_list self anc opts (tag_of name) attrs kids t
  unfolding write_element
  by_list e = rw (ap is_list (sym q) ∙ e)

  pub by_link : is_list n ≡ false → n ≡ 21 → write_element self anc opts name attrs kids t ≡ write_link self anc opts name attrs kids t
  unfolding write_element
  by_link e k = rw (ap is_list (sym q) ∙ e) (rw (eq-eqb (tag_of name) 21 (sym q ∙ k)))

  pub by_img : is_list n ≡ false → n ≡ 22 → write_element self anc opts name attrs kids t ≡ write_img attrs t
  unfolding write_element
  by_img e k = rw (ap is_list (sym q) ∙ e) (rw (sym q ∙ k))

  pub by_pre : is_list n ≡ false → n ≡ 23 → write_element self anc opts name attrs kids t ≡ write_pre anc opts attrs kids t
  unfolding write_element
  by_pre e k = rw (ap is_list (sym q) ∙ e) (rw (sym q ∙ k))

  pub by_table : is_list n ≡ false → n ≡ 14 → write_element self anc opts name attrs kids t ≡ write_table self anc opts name attrs kids t
  unfolding write_element
  by_table e k = rw (ap is_list (sym q) ∙ e) (rw (sym q ∙ k))

  pub by_code : is_list n ≡ false → n ≡ 24 → write_element self anc opts name attrs kids t ≡ write_code self anc opts name attrs kids t
  unfolding write_element
  by_code e k = rw (ap is_list (sym q) ∙ e) (rw (sym q ∙ k))

  pub by_emphasis : is_list n ≡ false → (n ≡ 21 → ⊥) → (n ≡ 22 → ⊥) → (n ≡ 23 → ⊥) → (n ≡ 14 → ⊥) → (n ≡ 24 → ⊥)
      → write_element self anc opts name attrs kids t ≡ write_emphasis self anc opts (tag_of name) attrs kids t
  unfolding write_element
  by_emphasis e a b c d f =
      rw (ap is_list (sym q) ∙ e) (rw (ne_eqb (tag_of name) 21 (λ z. a (q ∙ z)))
      (rw (ne_eqb (tag_of name) 22 (λ z. b (q ∙ z))) (rw (ne_eqb (tag_of name) 23 (λ z. c (q ∙ z)))
      (rw (ne_eqb (tag_of name) 14 (λ z. d (q ∙ z))) (rw (ne_eqb (tag_of name) 24 (λ z. f (q ∙ z))))))))

-- what is written under options that are the same
pub element_as : (self : MDSerializer) (anc : Ancestors) (name : Bytes) (attrs : List Attr) (kids : Forest) (t : Bytes) {u o : FormatOpts} {y : Out} {room : ℕ} {after : Bytes} {r : Wrote}
    → u ≡ o → write_element self anc u name attrs kids t ≡ y → Writes room after r y → Writes room after r (write_element self anc o name attrs kids t)
element_as self anc name attrs kids t q e w = alike (ap (λ (p : FormatOpts). write_element self anc p name attrs kids t) (sym q) ∙ e) w

pub emphasis_as : (self : MDSerializer) (anc : Ancestors) (name : ℕ) (attrs : List Attr) (kids : Forest) (t : Bytes) {u o : FormatOpts} → u ≡ o
    → let written : Out = self.below (attrs ∷ anc) (emphasis_scope (scope_of (md_emphasis name)) (inline (include_node u))) kids [] in
    write_emphasis self anc o name attrs kids t ≡ nested written (emphasis_step u name written.text) t
emphasis_as self anc name attrs kids t {u} q =
    ap (λ (p : FormatOpts). write_emphasis self anc p name attrs kids t) (sym q) ∙ ap (λ (f : Step). f t) (emphasis_is self anc u name attrs kids)
