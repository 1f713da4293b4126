use mathlib.Core.Path.{refl, sym, ap, ◌∙◌}
use Rattle.tables.specs.Spans.{width}
use Rattle.tables.proofs.Cutting.{width_first, width_none}
use Rattle.tables.proofs.Lines.{maybe_row, line_row, line_skip, line_none, row_length}
use Rattle.tables.proofs.table.first_width.Goals as goal

pub loop-r-init : goal.loop-r-init
loop-r-init c = (c.requires, refl)

pub is_filled_row-requires : goal.is_filled_row-requires
is_filled_row-requires c =
    let a = c.args in
    maybe_row a.tree.now.sheet.now a.tree.now.nodes.now c.loop-r.r a.to c.loop-r.invariant.0 c.loop-r-test.true

pub count_cells-requires : goal.count_cells-requires
count_cells-requires c = c.is_filled_row.ensures.row c.if-is_filled_row.true

pub returns-then-is_filled_row : goal.returns-then-is_filled_row
returns-then-is_filled_row c =
    let a = c.args in
    let l = c.loop-r in
    let x = line_row a.tree.now.sheet.now a.tree.now.nodes.now l.r a.to l.invariant.0 c.loop-r-test.true c.is_filled_row.ensures.row c.is_filled_row.ensures.filled c.if-is_filled_row.true in
    c.count_cells.ensures x.row x.at ∙ sym (l.invariant.1 ∙ (width_first x.lengths_are ∙ row_length a.tree.now.sheet.now a.tree.now.nodes.now x.at))

pub loop-r-preserved : goal.loop-r-preserved
loop-r-preserved c =
    let a = c.args in
    let l = c.loop-r in
    let x = line_skip a.tree.now.sheet.now a.tree.now.nodes.now l.r a.to l.invariant.0 c.loop-r-test.true c.is_filled_row.ensures.row c.is_filled_row.ensures.filled c.if-is_filled_row.false in
    ((x.more, x.behind), l.invariant.1 ∙ ap width x.lengths_are)

pub returns : goal.returns
returns c =
    let a = c.args in
    sym (c.loop-r.invariant.1 ∙ width_none (line_none a.tree.now.sheet.now a.tree.now.nodes.now c.loop-r.r a.to c.loop-r-test.false))
