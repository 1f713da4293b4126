use mathlib.Core.Bool.{false}
use Rattle.nodes.proofs.Numbers.{Carried}
use Rattle.elements.specs.Edges.{ended_by}
use Rattle.elements.proofs.code.ends_line.Given as goal

abbrev pub invariant-loop-i : goal.invariant-loop-i
invariant-loop-i l = Carried ended_by l.tree.sheet.now l.tree.nodes.now l.from l.to false l.i l.ended
