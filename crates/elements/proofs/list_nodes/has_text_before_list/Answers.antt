use mathlib.Core.Path.{refl, sym, ap, ◌∙◌}
use mathlib.Core.Bool.{true, false}
use Rattle.spec.specs.Md.Elements.Blocks.{is_list}
use Rattle.spec.specs.Md.Elements.List.{has_text_before_list}
use Rattle.tree.specs.Represents.{head_of}
use Rattle.nodes.proofs.Siblings.{left_on, left_at, left_node, left_none, its_head, turn_before, turn_left, turn_on, turn_none}
use Rattle.elements.proofs.ListTests.{before_none, before_here, before_on}
use Rattle.elements.proofs.list_nodes.has_text_before_list.Goals as goal

pub node_name-requires : goal.node_name-requires
node_name-requires c =
    let w = c.loop-i.invariant in let s = c.in-Some.ensures.steps in left_node (turn_left w s) (turn_before w s)

pub node_end-requires : goal.node_end-requires
node_end-requires c =
    let w = c.loop-i.invariant in let s = c.in-Some.ensures.steps in (left_node (turn_left w s) (turn_before w s)).inside

pub is_white_space-requires : goal.is_white_space-requires
is_white_space-requires c =
    let w = c.loop-i.invariant in let s = c.in-Some.ensures.steps in let p = (turn_left w s).here in
    (p.0, head_of p.1, its_head c.args.tree.now.sheet.now c.args.tree.now.nodes.now p.0 _ c.args.to p.1 p.2 (turn_before w s) c.node_end.ensures)

pub returns-then-is_list : goal.returns-then-is_list
returns-then-is_list c =
    let w = c.loop-i.invariant in let s = c.in-Some.ensures.steps in
    let q = sym (c.is_list.ensures ∙ ap is_list c.node_name.ensures) ∙ c.if-is_list.true in
    left_at (turn_left w s) false (λ parent g h. before_none c.args.tree.now.sheet.now c.args.tree.now.nodes.now parent _ c.args.to g h (turn_before w s) q)

pub returns-then-not-is_white_space : goal.returns-then-not-is_white_space
returns-then-not-is_white_space c =
    let w = c.loop-i.invariant in let s = c.in-Some.ensures.steps in
    let q = sym (c.is_list.ensures ∙ ap is_list c.node_name.ensures) ∙ c.if-is_list.false in
    left_at (turn_left w s) true (λ parent g h. before_here c.args.tree.now.sheet.now c.args.tree.now.nodes.now parent _ c.args.to g h (turn_before w s) q
    (sym (c.is_white_space.ensures parent (head_of g) (its_head c.args.tree.now.sheet.now c.args.tree.now.nodes.now parent _ c.args.to g h (turn_before w s) c.node_end.ensures)) ∙ c.if-not-is_white_space.true))

pub loop-i-preserved : goal.loop-i-preserved
loop-i-preserved c =
    let w = c.loop-i.invariant in let s = c.in-Some.ensures.steps in
    let q = sym (c.is_list.ensures ∙ ap is_list c.node_name.ensures) ∙ c.if-is_list.false in
    turn_on w s (left_on (turn_left w s) (turn_before w s) (λ parent g h. before_on c.args.tree.now.sheet.now c.args.tree.now.nodes.now parent _ c.args.to g h (turn_before w s) q
    (sym (c.is_white_space.ensures parent (head_of g) (its_head c.args.tree.now.sheet.now c.args.tree.now.nodes.now parent _ c.args.to g h (turn_before w s) c.node_end.ensures)) ∙ c.if-not-is_white_space.false)))

pub returns : goal.returns
unfolding has_text_before_list
returns c =
    left_none c.loop-i.invariant.left false (turn_none c.loop-i.invariant c.in-None.ensures.steps.0) refl
