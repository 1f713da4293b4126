use mathlib.Core.Bool.{true, false}
use mathlib.Core.Path.{refl, sym, ap, ◌∙◌}
use Rattle.spec.specs.Md.Elements.List.{node_is_list_item_block, has_blocks}
use Rattle.nodes.proofs.Siblings.{left_on, left_at, left_node, left_none, turn_before, turn_left, turn_on, turn_none}
use Rattle.elements.proofs.ListTests.{blocks_here, blocks_on}
use Rattle.elements.proofs.list_nodes.has_blocks.Goals as goal

pub node_name-requires : goal.node_name-requires
node_name-requires c =
    let w = c.loop-i.invariant in let s = c.in-Some.ensures.steps in left_node (turn_left w s) (turn_before w s)

pub returns-then-node_is_list_item_block : goal.returns-then-node_is_list_item_block
returns-then-node_is_list_item_block c =
    let w = c.loop-i.invariant in let s = c.in-Some.ensures.steps in
    let e = sym (c.node_is_list_item_block.ensures ∙ ap node_is_list_item_block c.node_name.ensures) ∙ c.if-node_is_list_item_block.true in
    left_at (turn_left w s) true (λ parent g h. blocks_here c.args.tree.now.sheet.now c.args.tree.now.nodes.now parent _ c.args.to g h (turn_before w s) e)

pub loop-i-preserved : goal.loop-i-preserved
loop-i-preserved c =
    let w = c.loop-i.invariant in let s = c.in-Some.ensures.steps in
    let e = sym (c.node_is_list_item_block.ensures ∙ ap node_is_list_item_block c.node_name.ensures) ∙ c.if-node_is_list_item_block.false in
    turn_on w s (left_on (turn_left w s) (turn_before w s) (λ parent g h. blocks_on c.args.tree.now.sheet.now c.args.tree.now.nodes.now parent _ c.args.to g h (turn_before w s) e))

pub returns : goal.returns
unfolding has_blocks
returns c =
    left_none c.loop-i.invariant.left false (turn_none c.loop-i.invariant c.in-None.ensures.steps.0) refl
