-- What a field says is said of the node whose field it is.
use Prim.Native.Nat.{ℕ}
use mathlib.Core.Path.{◌≡◌, ap, subst, ◌∙◌}
use lib.ListN.{get_or}
use Rattle.spec.specs.Bytes.{Bytes}
use Rattle.tree.specs.Memory.{place_at}
use Rattle.tree.specs.NodeFields.{IsField}
use Rattle.tree.specs.declared.field.NodeField.{NodeField}

pub of_node : {A : Type 0} → {sh ns : Bytes} → {i : ℕ} → {f : NodeField} → (g : Bytes → ℕ → A) → IsField sh ns i f → g f.sheet.now f.place ≡ g sh (place_at ns i)
of_node {A} {sh} {ns} {i} {f} g h = ap (λ (s : Bytes). g s f.place) h.sheet_is ∙ ap (g sh) h.place_is

pub holds_of_node : {sh ns : Bytes} → {i : ℕ} → {f : NodeField} → (P : Bytes → ℕ → Type 0) → IsField sh ns i f → P f.sheet.now f.place → P sh (place_at ns i)
holds_of_node {sh} {ns} {i} {f} P h w = subst (P sh) h.place_is (subst (λ (s : Bytes). P s f.place) h.sheet_is w)

pub tag_of_node : {sh ns : Bytes} → {i tag : ℕ} → {f : NodeField} → IsField sh ns i f → tag ≡ get_or f.sheet.now f.place 0 → tag ≡ get_or sh (place_at ns i) 0
tag_of_node h q = q ∙ of_node (λ (s : Bytes) (p : ℕ). get_or s p 0) h
