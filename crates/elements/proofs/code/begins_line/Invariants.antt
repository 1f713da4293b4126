use Prim.Native.Nat.{◌≤◌}
use mathlib.Core.Path.{◌≡◌}
use Rattle.nodes.proofs.Numbers.{pieces}
use Rattle.elements.proofs.Edges.{begins}
use Rattle.elements.proofs.code.begins_line.Given as goal

abbrev pub invariant-loop-i : goal.invariant-loop-i
invariant-loop-i l = (l.from ≤ l.i) × (begins (pieces l.tree.sheet.now l.tree.nodes.now l.to l.from) ≡ begins (pieces l.tree.sheet.now l.tree.nodes.now l.to l.i))
