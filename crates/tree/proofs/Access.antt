-- What the field of a node says of its kind, its name and its text, and what the records say of its siblings.
use Prim.Native.Nat.{ℕ, ◌-◌, ◌≤◌}
use native.Mathlib.Omega.{arith}
use mathlib.Core.Path.{◌≡◌, ap, ◌∙◌, sym}
use mathlib.Core.Bool.{false}
use mathlib.Core.List.{List}
use lib.ListN.{length, get_or}
use borrow.Author.Tests.{eq-eqb, ne_eqb}
use Rattle.spec.specs.Bytes.{Bytes, among}
use Rattle.spec.specs.Names.{tag_of}
use Rattle.input.specs.Spans.{span_at, field_of}
use Rattle.tree.specs.Nodes.{name_at, skipped_at, text_at, PartIs}
use Rattle.input.specs.declared.fields.Span.{Span}

module _ (sh : Bytes) (p : ℕ) (r : Span) (at : r ≡ span_at sh p) where
  tag_is : r.tag ≡ get_or sh p 0
  tag_is = ap (λ (s : Span). s.tag) at

  body_is : (field_of sh r).body ≡ (field_of sh (span_at sh p)).body
  body_is = ap (λ (s : Span). (field_of sh s).body) at

  pub no_name : (r.tag ≡ 1 → ⊥) → 0 ≡ name_at sh p
  unfolding name_at
  no_name ne = sym (rw (ne_eqb (get_or sh p 0) 1 (λ e. ne (tag_is ∙ e))))

  pub its_name : r.tag ≡ 1 → tag_of (field_of sh r).body ≡ name_at sh p
  unfolding name_at
  its_name e = rw (eq-eqb (get_or sh p 0) 1 (sym tag_is ∙ e)) (ap tag_of body_is)

  module _ (skips : List Bytes) where
    pub no_element : (r.tag ≡ 1 → ⊥) → false ≡ skipped_at skips sh p
    unfolding skipped_at
    no_element ne = sym (rw (ne_eqb (get_or sh p 0) 1 (λ e. ne (tag_is ∙ e))))

    pub its_skip : r.tag ≡ 1 → among (field_of sh r).body skips ≡ skipped_at skips sh p
    unfolding skipped_at
    its_skip e = rw (eq-eqb (get_or sh p 0) 1 (sym tag_is ∙ e)) (ap (λ (x : Bytes). among x skips) body_is)

  module _ (ordered : r.start ≤ r.end) (inside : r.end ≤ length sh) where
    pub no_text : (r.tag ≡ 4 → ⊥) → PartIs sh (record { start = r.start; end = r.start }) (text_at sh p)
    unfolding text_at
    no_text ne =
        let z : r.start - r.start ≡ 0 = omega arith in
        record { ordered = omega arith; inside = omega arith; bytes_are = rw (ne_eqb (get_or sh p 0) 4 (λ e. ne (tag_is ∙ e)), z) }

    pub its_text : r.tag ≡ 4 → PartIs sh (record { start = r.start; end = r.end }) (text_at sh p)
    unfolding text_at
    its_text e =
        record {
          ordered = ordered;
          inside = inside;
          bytes_are = rw (eq-eqb (get_or sh p 0) 4 (sym tag_is ∙ e)) (sym body_is);
        }
