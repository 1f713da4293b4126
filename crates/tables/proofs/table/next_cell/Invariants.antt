use Prim.Native.Nat.{◌≤◌}
use Rattle.tree.specs.Siblings.{Over}
use Rattle.tables.proofs.Gathering.{Looking}
use Rattle.tables.proofs.table.next_cell.Given as goal

abbrev pub invariant-loop-c : goal.invariant-loop-c
invariant-loop-c l = Over l.tree.sheet.now l.tree.nodes.now l.c-iterator.next l.to l.c-iterator × (l.from ≤ l.c-iterator.next)
    × Looking l.tree.sheet.now l.tree.nodes.now l.from l.to l.c-iterator.next
