use mathlib.Core.Path.{sym, ◌∙◌}
use borrow.Author.Tests.{ne_eqb}
use Rattle.input.specs.Fields.{field}
use Rattle.tree.proofs.Attrs.{ends_then, name_then_lem, other_then}
use Rattle.tree.proofs.attributes.value_of.Goals as goal
use Rattle.tree.proofs.attributes.value_of.Goals.{then-ends_attributes-via-then-ends_attributes, then-ends_attributes-via-else-ends_attributes+then-f-eq-NAME}

pub returns-then-ends_attributes : goal.returns-then-ends_attributes
returns-then-ends_attributes c t =
    elim c.then-ends_attributes.branch [
      | then-ends_attributes-via-then-ends_attributes w ↦ sym (ends_then (field c.args.f) t (sym c.ends_attributes.ensures ∙ w.if-ends_attributes.true)).1
      | then-ends_attributes-via-else-ends_attributes+then-f-eq-NAME w ↦ sym (name_then_lem (field c.args.f) t w.if-f-eq-NAME.true).1
    ]

pub returns : goal.returns
returns c t =
    sym (other_then (field c.args.f) t (sym c.ends_attributes.ensures ∙ c.if-ends_attributes.false) (ne_eqb _ _ c.if-f-eq-NAME.false)).1
