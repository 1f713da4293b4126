use Prim.Native.Nat.{◌≤◌}
use mathlib.Core.Path.{◌≡◌}
use Rattle.elements.proofs.Multilines.{some_line}
use Rattle.elements.proofs.code.is_multiline.Given as goal

abbrev pub invariant-loop-i : goal.invariant-loop-i
invariant-loop-i l = (l.from ≤ l.i) × (some_line l.tree.sheet.now l.tree.nodes.now l.to l.from ≡ some_line l.tree.sheet.now l.tree.nodes.now l.to l.i)
