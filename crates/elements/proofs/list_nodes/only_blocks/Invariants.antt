use Rattle.spec.specs.Md.Elements.List.{only_blocks}
use Rattle.nodes.proofs.Siblings.{Walks}
use Rattle.elements.proofs.list_nodes.only_blocks.Given as goal

abbrev pub invariant-loop-i : goal.invariant-loop-i
invariant-loop-i l = Walks only_blocks l.tree.sheet.now l.tree.nodes.now l.from l.to l.i-iterator
