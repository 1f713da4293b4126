use mathlib.Core.Path.{sym, ap, ◌∙◌}
use mathlib.Core.List.{List}
use Rattle.std.proofs.Common.{rules}
use borrow.Author.Tests.{tests}
use Rattle.spec.specs.Fields.{Field}
use Rattle.spec.specs.Tree.{tail}
use Rattle.tree.proofs.Attrs.{either_none, either_ends, either_value}
use Rattle.tree.proofs.field.NodeField.either_attribute.Goals as goal

pub returns-in_err-found : goal.returns-in_err-found
returns-in_err-found c =
    let a = c.args in
    either_none a.self.sheet.now a.self.place a.a.now a.b.now c.find.result c.find.new.self c.find.ensures.ran _ c.span.ensures.at c.new-fields.ensures (λ x t k h. search (rules, tests)) c.in_err-found.was c.from_residual.ensures

pub returns-then-ends_attributes : goal.returns-then-ends_attributes
returns-then-ends_attributes c =
    let a = c.args in
    either_ends a.self.sheet.now a.self.place a.a.now a.b.now c.find.result c.find.new.self c.find.ensures.ran _ c.span.ensures.at c.new-fields.ensures (λ x t k h. search (rules, tests)) c.in_ok-found.found c.in_ok-found.was
    (sym c.ends_attributes.ensures ∙ c.if-ends_attributes.true)

pub returns-in-Some : goal.returns-in-Some
unfolding tail
returns-in-Some c =
    let a = c.args in
    either_value a.self.sheet.now a.self.place a.a.now a.b.now c.find.result c.find.new.self c.find.ensures.ran _ c.span.ensures.at c.new-fields.ensures (λ x t k h. search (rules, tests)) c.in_ok-found.found c.in_ok-found.was
    (sym c.ends_attributes.ensures ∙ c.if-ends_attributes.false) c.value_of.result
    (c.value_of.ensures _ ∙ ap (λ (l : List Field). (tail l).value) (sym c.in-Some.ensures.steps))

pub returns-in-None : goal.returns-in-None
unfolding tail
returns-in-None c =
    let a = c.args in
    either_value a.self.sheet.now a.self.place a.a.now a.b.now c.find.result c.find.new.self c.find.ensures.ran _ c.span.ensures.at c.new-fields.ensures (λ x t k h. search (rules, tests)) c.in_ok-found.found c.in_ok-found.was
    (sym c.ends_attributes.ensures ∙ c.if-ends_attributes.false) _
    (ap (λ (l : List Field). (tail l).value) (sym c.in-None.ensures.steps.0))
