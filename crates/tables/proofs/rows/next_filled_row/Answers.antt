use native.Mathlib.Omega.{arith}
use mathlib.Core.Path.{refl, ap, sym, subst, ◌∙◌}
use Rattle.spec.specs.Md.Elements.Table.{from_cells}
use Rattle.tables.specs.Rows.{RowsAt}
use Rattle.tables.proofs.TableRows.{rows_le, rows_here, rows_none, row_name}
use Rattle.tables.proofs.RowTests.{filled_here}
use Rattle.tables.proofs.Lines.{maybe_row, line_skip}
use Rattle.tables.proofs.rows.next_filled_row.Goals as goal

pub is_filled_row-requires : goal.is_filled_row-requires
is_filled_row-requires c =
    let q = c.loop-r.invariant.1 c.requires.0 c.requires.1 in
    maybe_row c.args.tree.now.sheet.now c.args.tree.now.nodes.now c.loop-r.r c.args.to (q.0, q.1) c.loop-r-test.true

pub returns-then-is_filled_row : goal.returns-then-is_filled_row
returns-then-is_filled_row c = record {
  later = c.loop-r.invariant.0;
  rows = λ rows y.
      let q = c.loop-r.invariant.1 rows y in
      let x = rows_here c.args.tree.now.sheet.now c.args.tree.now.nodes.now c.loop-r.r c.args.to q.0 q.1 c.loop-r-test.true (row_name (c.is_filled_row.ensures.row c.if-is_filled_row.true).1) in
      subst (RowsAt c.args.tree.now.sheet.now c.args.tree.now.nodes.now c.loop-r.r c.args.to) (sym q.2)
      (filled_here c.is_filled_row.ensures.filled q.0 x c.loop-r-test.true c.if-is_filled_row.true);
}

pub loop-r-preserved : goal.loop-r-preserved
loop-r-preserved c = (
  omega (arith, c.loop-r.invariant.0),
  λ rows y.
      let q = c.loop-r.invariant.1 rows y in
      let m = line_skip c.args.tree.now.sheet.now c.args.tree.now.nodes.now c.loop-r.r c.args.to (q.0, q.1) c.loop-r-test.true c.is_filled_row.ensures.row c.is_filled_row.ensures.filled c.if-is_filled_row.false in
      (m.more, m.behind, q.2 ∙ m.cells_are),
)

pub returns : goal.returns
unfolding from_cells RowsAt
returns c = record {
  later = rows_le c.args.tree.now.sheet.now c.args.tree.now.nodes.now c.args.i c.args.to c.requires.0 c.requires.1;
  rows = λ rows x.
      let q = c.loop-r.invariant.1 rows x in
      subst (RowsAt c.args.tree.now.sheet.now c.args.tree.now.nodes.now c.args.to c.args.to)
      (sym (q.2 ∙ ap from_cells (rows_none c.args.tree.now.sheet.now c.args.tree.now.nodes.now c.loop-r.r c.args.to q.0 q.1 c.loop-r-test.false))) refl;
}
