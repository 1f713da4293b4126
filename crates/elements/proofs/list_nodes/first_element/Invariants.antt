use Rattle.nodes.specs.FirstElement.{first_element}
use Rattle.nodes.proofs.Siblings.{Walks}
use Rattle.elements.proofs.list_nodes.first_element.Given as goal

abbrev pub invariant-loop-i : goal.invariant-loop-i
invariant-loop-i l = Walks first_element l.tree.sheet.now l.tree.nodes.now l.from l.to l.i-iterator
