use Rattle.spec.specs.Md.Elements.List.{has_text_before_list}
use Rattle.nodes.proofs.Siblings.{Walks}
use Rattle.elements.proofs.list_nodes.has_text_before_list.Given as goal

abbrev pub invariant-loop-i : goal.invariant-loop-i
invariant-loop-i l = Walks has_text_before_list l.tree.sheet.now l.tree.nodes.now l.from l.to l.i-iterator
