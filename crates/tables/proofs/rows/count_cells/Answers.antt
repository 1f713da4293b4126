use Prim.Native.Nat.{ℕ}
use native.Mathlib.Omega.{arith}
use mathlib.Core.Path.{ap, ◌∙◌}
use mathlib.Core.Bool.{cond}
use lib.ListN.{length}
use Rattle.spec.specs.Md.Elements.Table.{is_table_cell}
use Rattle.nodes.proofs.Siblings.{over_begun, gives_before, gives_next, gives_over, gives_none}
use Rattle.tables.proofs.TableCells.{cells_all, cells_at, cells_node, cells_first, cells_none, count_on, count_one}
use Rattle.tables.proofs.rows.count_cells.Goals as goal

pub loop-c-init : goal.loop-c-init
loop-c-init c =
    let b = over_begun c.siblings-c-items.ensures c.into_iter-c-iterator.ensures.into_iter_gives c.node_end.ensures in
    (b.0, omega arith, λ row x. (row, cells_at (cells_all x) b.1, omega arith))

pub node_name-requires : goal.node_name-requires
node_name-requires c =
    let l = c.loop-c.invariant in let s = c.in-Some.ensures.steps in
    cells_node (cells_at (l.2 c.requires.0 c.requires.1).1 s.0) (gives_before l.0 s)

pub loop-c-preserved : goal.loop-c-preserved
loop-c-preserved c =
    let l = c.loop-c.invariant in let s = c.in-Some.ensures.steps in (
      gives_over l.0 s,
      omega (arith, l.1, s.0, count_one (is_table_cell c.node_name.result) c.cells_of-n.ensures, gives_next l.0 s, (cells_first (cells_at (l.2 c.requires.0 c.requires.1).1 s.0) (gives_before l.0 s)).later),
      λ row x.
          let q = l.2 row x in
          let m = count_on (cells_at q.1 s.0) (gives_before l.0 s) (gives_next l.0 s) (c.cells_of-n.ensures ∙ ap (λ (n : ℕ). cond {A = ℕ} (is_table_cell n) 1 0) c.node_name.ensures) in
          (m.0, m.1, omega (arith, q.2, m.2)),
    )

pub returns : goal.returns
returns c = λ row x.
    let l = c.loop-c.invariant in let q = l.2 row x in
    omega (arith, q.2, ap length (cells_none q.1 (gives_none l.0 c.in-None.ensures.steps.0)))
