use mathlib.Core.Path.{sym, ◌∙◌}
use Rattle.spec.specs.Tree.{text_of}
use Rattle.nodes.proofs.Numbers.{carried_node, carried_on, carried_end}
use Rattle.tree.specs.Nodes.{text_at}
use Rattle.tree.proofs.NodeFields.{of_node}
use Rattle.elements.proofs.Edges.{ended_folds, ended_plain}
use Rattle.elements.proofs.code.ends_line.Goals as goal

pub loop-i-preserved : goal.loop-i-preserved
loop-i-preserved c = carried_on c.loop-i.invariant ended_folds c.loop-i-test.true (c.text.ensures ∙ of_node text_at c.field.ensures) c.ended_by-ended.ensures

pub returns : goal.returns
returns c = λ parent f h. sym (ended_plain (text_of f) ∙ carried_end c.loop-i.invariant ended_folds c.loop-i-test.false parent f h)

pub field-requires : goal.field-requires
field-requires c =
    let n = carried_node c.loop-i.invariant c.requires c.loop-i-test.true in (n.inside, n.placed)
