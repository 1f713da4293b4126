use Prim.Native.Nat.{◌+◌}
use lib.ListN.{drop, length-drop}
use Rattle.tables.specs.Spans.{cell_lengths}
use Rattle.tables.proofs.Cutting.{cuts_length}
use native.Mathlib.Omega.{arith}
use Rattle.tables.proofs.table.put_row.Goals as goal

pub put_line-requires : goal.put_line-requires
put_line-requires c =
    let a = c.args in
    let pre = c.requires in
    let n = cuts_length (cell_lengths a.tree.now.sheet.now a.tree.now.nodes.now a.row (a.row + 1) a.to) (drop a.src a.text.now.room.now) (omega (arith, length-drop a.src a.text.now.room.now, pre.2)) in
    (pre.0, omega (arith, n, pre.1, pre.2), pre.2, λ q. omega (arith, n, pre.1))
