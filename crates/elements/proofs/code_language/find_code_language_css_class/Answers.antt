use mathlib.Core.Path.{refl, sym, ◌∙◌}
use mathlib.Core.Option.{none}
use Prim.Native.Nat.{ℕ}
use Rattle.spec.specs.Bytes.{ascii}
use Rattle.spec.specs.Tree.{attr}
use Rattle.spec.specs.Md.Elements.Code.{class_language, find_code_language_css_class}
use Rattle.tree.specs.Represents.{attrs_behind}
use Rattle.nodes.proofs.Siblings.{left_on, left_at, left_node, left_none, turn_before, turn_left, turn_on, turn_none}
use Rattle.spec.specs.Bytes.{Bytes}
use Rattle.elements.specs.Languages.{Language}
use Rattle.tree.specs.Memory.{place_at}
use Rattle.tree.proofs.NodeFields.{holds_of_node}
use Rattle.elements.proofs.Languages.{language_of, css_here, css_on}
use Rattle.elements.proofs.code_language.find_code_language_css_class.Goals as goal

pub node_name-requires : goal.node_name-requires
node_name-requires c = let w = c.loop-i.invariant in let s = c.in-Some.ensures.steps in left_node (turn_left w s) (turn_before w s)

pub field-requires : goal.field-requires
field-requires c =
    let w = c.loop-i.invariant in let s = c.in-Some.ensures.steps in let n = left_node (turn_left w s) (turn_before w s) in (n.inside, n.placed)

pub returns-then-node_name-eq-CODE : goal.returns-then-node_name-eq-CODE
returns-then-node_name-eq-CODE c =
    let t = c.args.tree.now in let w = c.loop-i.invariant in let s = c.in-Some.ensures.steps in
    λ parent f h. language_of
    (sym (left_at (turn_left w s) (class_language (attr (ascii "class") (attrs_behind t.sheet.now (place_at t.nodes.now c.in-Some.i))))
    (λ parent g h. css_here t.sheet.now t.nodes.now parent _ c.args.to g h (turn_before w s) (sym c.node_name.ensures ∙ c.if-node_name-eq-CODE.true)) parent f h))
    (holds_of_node (λ (s : Bytes) (p : ℕ). Language s c.class_of.result (class_language (attr (ascii "class") (attrs_behind s p)))) c.field.ensures c.class_of.ensures)

pub loop-i-preserved : goal.loop-i-preserved
loop-i-preserved c =
    let t = c.args.tree.now in let w = c.loop-i.invariant in let s = c.in-Some.ensures.steps in
    turn_on w s (left_on (turn_left w s) (turn_before w s) (λ parent g h. css_on t.sheet.now t.nodes.now parent _ c.args.to g h (turn_before w s) (λ q. c.if-node_name-eq-CODE.false (c.node_name.ensures ∙ q))))

pub returns : goal.returns
unfolding find_code_language_css_class
returns c = λ parent f h. record { inside = tt; language_is = sym (left_none c.loop-i.invariant.left none (turn_none c.loop-i.invariant c.in-None.ensures.steps.0) refl parent f h) }
