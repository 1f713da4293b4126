use Prim.Native.Nat.{◌≤◌}
use mathlib.Core.Path.{◌≡◌}
use Rattle.nodes.proofs.Numbers.{some_named}
use Rattle.nodes.proofs.nodes.has_element.Given as goal

abbrev pub invariant-loop-i : goal.invariant-loop-i
invariant-loop-i l = (l.from ≤ l.i) × (some_named l.name l.tree.sheet.now l.tree.nodes.now l.to l.from ≡ some_named l.name l.tree.sheet.now l.tree.nodes.now l.to l.i)
