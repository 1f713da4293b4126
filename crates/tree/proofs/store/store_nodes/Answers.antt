use Rattle.tree.proofs.Stages.{one_node}
use native.Mathlib.Omega.{arith}
use Rattle.tree.proofs.store.store_nodes.Goals as goal

pub store_record-requires : goal.store_record-requires
store_record-requires c =
    let a = c.args in
    (omega (arith, c.requires.room_for, one_node a.sheet.now), omega arith, omega arith, omega arith)
