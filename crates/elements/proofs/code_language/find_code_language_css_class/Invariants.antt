use Rattle.spec.specs.Md.Elements.Code.{find_code_language_css_class}
use Rattle.nodes.proofs.Siblings.{Walks}
use Rattle.elements.proofs.code_language.find_code_language_css_class.Given as goal

abbrev pub invariant-loop-i : goal.invariant-loop-i
invariant-loop-i l = Walks find_code_language_css_class l.tree.sheet.now l.tree.nodes.now l.from l.to l.i-iterator
