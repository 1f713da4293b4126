use mathlib.Core.Path.{sym, ap, ◌∙◌}
use Rattle.spec.specs.Tree.{text_of}
use Rattle.nodes.specs.Begun.{is_nothing}
use Rattle.tree.specs.Nodes.{text_at}
use Rattle.tree.proofs.NodeFields.{of_node}
use Rattle.nodes.proofs.Numbers.{carried_node, carried_on, carried_end}
use Rattle.nodes.proofs.Whites.{white_folds, white_space_is}
use Rattle.nodes.proofs.nodes.is_white_space.Goals as goal

pub field-requires : goal.field-requires
field-requires c = let n = carried_node c.loop-i.invariant c.requires c.loop-i-test.true in (n.inside, n.placed)

pub loop-i-preserved : goal.loop-i-preserved
loop-i-preserved c =
    carried_on c.loop-i.invariant white_folds c.loop-i-test.true (c.text.ensures ∙ of_node text_at c.field.ensures) c.white_state-state.ensures

pub returns : goal.returns
returns c =
    λ parent f h. c.has_ended.ensures ∙ sym (white_space_is (text_of f) ∙ ap is_nothing (carried_end c.loop-i.invariant white_folds c.loop-i-test.false parent f h))
