use mathlib.Core.Path.{◌≡◌, sym, ap, subst, ◌∙◌}
use lib.ListN.{get_or}
use Rattle.spec.specs.Tree.{Forest}
use Rattle.tree.specs.Memory.{place_at}
use Rattle.tree.specs.Represents.{Rep}
use Rattle.tree.proofs.Firsts.{ended}
use Rattle.nodes.specs.FirstElement.{first_element}
use Rattle.nodes.proofs.Siblings.{left_on, left_node, turn_before, turn_left, turn_on, turn_none}
use Rattle.nodes.proofs.Interrupts.{element_first, element_on}
use Rattle.tree.proofs.NodeFields.{tag_of_node}
use Rattle.elements.proofs.list_nodes.first_element.Goals as goal

pub field-requires : goal.field-requires
field-requires c =
    let w = c.loop-i.invariant in let s = c.in-Some.ensures.steps in let n = left_node (turn_left w s) (turn_before w s) in (n.inside, n.placed)

pub returns-then-tag-eq-OPEN : goal.returns-then-tag-eq-OPEN
returns-then-tag-eq-OPEN c =
    let w = c.loop-i.invariant in let s = c.in-Some.ensures.steps in
    let sh = c.args.tree.now.sheet.now in let ns = c.args.tree.now.nodes.now in
    let t : get_or sh (place_at ns c.in-Some.i) 0 ≡ 1 = sym (tag_of_node c.field.ensures c.tag.ensures) ∙ c.if-tag-eq-OPEN.true in (
      turn_before w s,
      t,
      λ parent f h. let q = (turn_left w s).goes parent f h in
          subst (λ (g : Forest). Rep sh ns parent c.in-Some.i c.args.to g) (sym (q.2 ∙ element_first sh ns parent c.in-Some.i c.args.to q.0 q.1 (turn_before w s) t)) q.1,
    )

pub loop-i-preserved : goal.loop-i-preserved
loop-i-preserved c =
    let w = c.loop-i.invariant in let s = c.in-Some.ensures.steps in
    let sh = c.args.tree.now.sheet.now in let ns = c.args.tree.now.nodes.now in
    turn_on w s (left_on (turn_left w s) (turn_before w s) (λ parent g h. element_on sh ns parent c.in-Some.i c.args.to g h
    (λ q. c.if-tag-eq-OPEN.false (tag_of_node c.field.ensures c.tag.ensures ∙ q))))

pub returns : goal.returns
unfolding first_element
returns c =
    λ parent f h. let q = c.loop-i.invariant.left.goes parent f h in
    q.2 ∙ ap first_element (ended c.args.tree.now.sheet.now c.args.tree.now.nodes.now parent _ c.args.to q.0 q.1 (turn_none c.loop-i.invariant c.in-None.ensures.steps.0))
