use mathlib.Core.Path.{refl, ap, ◌∙◌}
use mathlib.Core.Bool.{Bool, true, ◌&&◌}
use Rattle.spec.specs.Md.Elements.List.{only_blocks}
use Rattle.tree.specs.Represents.{rest_of}
use Rattle.nodes.proofs.Siblings.{left_on, left_node, left_none, turn_before, turn_left, turn_on, turn_none}
use Rattle.elements.proofs.list_nodes.only_blocks.Goals as goal

pub is_only_block-requires : goal.is_only_block-requires
is_only_block-requires c =
    let w = c.loop-i.invariant in let s = c.in-Some.ensures.steps in left_node (turn_left w s) (turn_before w s)

pub loop-i-preserved : goal.loop-i-preserved
loop-i-preserved c =
    let w = c.loop-i.invariant in let s = c.in-Some.ensures.steps in
    turn_on w s (left_on (turn_left w s) (turn_before w s) (λ parent g h. c.is_only_block.ensures parent c.args.to g h (turn_before w s) ∙ ap (λ (t : Bool). t && only_blocks (rest_of g)) c.if-not-is_only_block.false))

pub returns : goal.returns
unfolding only_blocks
returns c =
    left_none c.loop-i.invariant.left true (turn_none c.loop-i.invariant c.in-None.ensures.steps.0) refl
