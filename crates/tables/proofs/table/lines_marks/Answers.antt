use mathlib.Core.Path.{refl, ap}
use Rattle.tables.specs.Spans.{table_lengths, marks}
use Rattle.tables.proofs.Cutting.{marks_first, marks_none, marks_few}
use Rattle.tables.proofs.Lines.{maybe_row, line_row, line_skip, line_none, line_turn, row_length}
use native.Mathlib.Omega.{arith}
use Rattle.tables.proofs.table.lines_marks.Goals.{then-is_filled_row, else-is_filled_row}
use Rattle.tables.proofs.table.lines_marks.Goals as goal

pub loop-r-init : goal.loop-r-init
loop-r-init c = (c.requires.0, omega arith)

pub is_filled_row-requires : goal.is_filled_row-requires
is_filled_row-requires c =
    let a = c.args in
    maybe_row a.tree.now.sheet.now a.tree.now.nodes.now c.loop-r.r a.to c.loop-r.invariant.0 c.loop-r-test.true

pub count_cells-requires : goal.count_cells-requires
count_cells-requires c = c.is_filled_row.ensures.row c.if-is_filled_row.true

pub overflow_mul-n : goal.overflow_mul-n
overflow_mul-n c =
    let a = c.args in
    let l = c.loop-r in
    let x = line_row a.tree.now.sheet.now a.tree.now.nodes.now l.r a.to l.invariant.0 c.loop-r-test.true c.is_filled_row.ensures.row c.is_filled_row.ensures.filled c.if-is_filled_row.true in
    omega (arith, marks_first (line_turn x refl), c.count_cells.ensures x.row x.at, row_length a.tree.now.sheet.now a.tree.now.nodes.now x.at, l.invariant.1, marks_few (table_lengths a.tree.now.sheet.now a.tree.now.nodes.now a.from a.to), c.requires.1)

pub overflow_add-n : goal.overflow_add-n
overflow_add-n c =
    let a = c.args in
    let l = c.loop-r in
    let x = line_row a.tree.now.sheet.now a.tree.now.nodes.now l.r a.to l.invariant.0 c.loop-r-test.true c.is_filled_row.ensures.row c.is_filled_row.ensures.filled c.if-is_filled_row.true in
    omega (arith, marks_first (line_turn x refl), c.count_cells.ensures x.row x.at, row_length a.tree.now.sheet.now a.tree.now.nodes.now x.at, l.invariant.1, marks_few (table_lengths a.tree.now.sheet.now a.tree.now.nodes.now a.from a.to), c.requires.1)

pub overflow_add-n-then-is_filled_row : goal.overflow_add-n-then-is_filled_row
overflow_add-n-then-is_filled_row c =
    let a = c.args in
    let l = c.loop-r in
    let x = line_row a.tree.now.sheet.now a.tree.now.nodes.now l.r a.to l.invariant.0 c.loop-r-test.true c.is_filled_row.ensures.row c.is_filled_row.ensures.filled c.if-is_filled_row.true in
    omega (arith, marks_first (line_turn x refl), c.count_cells.ensures x.row x.at, row_length a.tree.now.sheet.now a.tree.now.nodes.now x.at, l.invariant.1, marks_few (table_lengths a.tree.now.sheet.now a.tree.now.nodes.now a.from a.to), c.requires.1)

pub loop-r-preserved : goal.loop-r-preserved
loop-r-preserved c =
    let a = c.args in
    let l = c.loop-r in
    elim c.if-is_filled_row.branch [
      | then-is_filled_row w ↦
          let x = line_row a.tree.now.sheet.now a.tree.now.nodes.now l.r a.to l.invariant.0 c.loop-r-test.true c.is_filled_row.ensures.row c.is_filled_row.ensures.filled w.if-is_filled_row.true in
          (x.behind, omega (arith, marks_first (line_turn x refl), w.count_cells.ensures x.row x.at, row_length a.tree.now.sheet.now a.tree.now.nodes.now x.at, l.invariant.1, w.n-is))
      | else-is_filled_row w ↦
          let x = line_skip a.tree.now.sheet.now a.tree.now.nodes.now l.r a.to l.invariant.0 c.loop-r-test.true c.is_filled_row.ensures.row c.is_filled_row.ensures.filled w.if-is_filled_row.false in
          ((x.more, x.behind), omega (arith, ap marks x.lengths_are, l.invariant.1, w.n-is))
    ]

pub returns : goal.returns
returns c =
    let a = c.args in
    omega (arith, marks_none (line_none a.tree.now.sheet.now a.tree.now.nodes.now c.loop-r.r a.to c.loop-r-test.false), c.loop-r.invariant.1)
