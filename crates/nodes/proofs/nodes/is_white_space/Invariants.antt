use Rattle.nodes.specs.Begun.{white_state}
use Rattle.nodes.specs.declared.white_space.Begun.TheVariants.{Nothing}
use Rattle.nodes.proofs.Numbers.{Carried}
use Rattle.nodes.proofs.nodes.is_white_space.Given as goal

abbrev pub invariant-loop-i : goal.invariant-loop-i
invariant-loop-i l = Carried white_state l.tree.sheet.now l.tree.nodes.now l.from l.to Nothing l.i l.state
