use Prim.Native.Nat.{◌≤◌}
use Rattle.text.proofs.Texts.{Owes}
use Rattle.nodes.proofs.Numbers.{steps}
use Rattle.nodes.proofs.nodes.write_text.Given as goal

abbrev pub invariant-loop-i : goal.invariant-loop-i
invariant-loop-i l = (l.from ≤ l.i) × Owes l.initial.text l.text (steps l.opts l.tree.sheet.now l.tree.nodes.now l.to l.i) (steps l.opts l.tree.sheet.now l.tree.nodes.now l.to l.from)
