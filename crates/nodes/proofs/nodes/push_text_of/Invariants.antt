use Rattle.spec.specs.Bytes.{Bytes}
use Rattle.nodes.proofs.Appending.{Appends}
use Rattle.nodes.proofs.nodes.push_text_of.Given as goal

-- each text appends itself, in one state
abbrev itself : Unit {0} → Bytes → Bytes
itself x s = s

abbrev pub invariant-loop-i : goal.invariant-loop-i
invariant-loop-i l = Appends itself l.tree.sheet.now l.tree.nodes.now l.from l.to tt l.initial.text l.text l.i tt
