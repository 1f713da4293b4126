use Prim.Native.Nat.{◌+◌}
use mathlib.Core.Bool.{true≢false}
use Rattle.tables.specs.Spans.{cell_lengths}
use Rattle.tables.proofs.Cutting.{unders_length}
use native.Mathlib.Omega.{arith}
use Rattle.tables.proofs.table.put_rule.Goals as goal

pub put_line-requires : goal.put_line-requires
put_line-requires c =
    let a = c.args in
    let pre = c.requires in
    (pre.0, omega (arith, unders_length (cell_lengths a.tree.now.sheet.now a.tree.now.nodes.now a.row (a.row + 1) a.to), pre.1), omega (arith, pre.1), λ q. absurd (true≢false q))
