-- Each node from 1 on has a number in a tree that node memory holds.
use native.Mathlib.Omega.{arith}
use Rattle.tree.proofs.Ranges.{numbered_in, readable}
use Rattle.tree_cases.proofs.dump.print_nodes.Goals as goal

pub read_line-line-requires : goal.read_line-line-requires
read_line-line-requires g c = readable (numbered_in _ _ _ _ c.requires (omega arith) (omega arith))
