use Prim.Native.Nat.{ℕ, ◌+◌}
use mathlib.Core.List.{List, ◌++◌, append-nil}
use mathlib.Core.Path.{refl, sym, ap, ap₂, ◌∙◌}
use lib.ListN.{drop, length-drop}
use Rattle.spec.specs.Md.Elements.Table.{concat}
use Rattle.tables.specs.Puts.{bar_line, bar_lines}
use Rattle.tables.specs.Spans.{cell_lengths, table_lengths, filled, sum, cuts, cut_rows}
use Rattle.tables.proofs.Putting.{due_all, due_room, due_on, due_as, due_done, puts_text, puts_behind}
use Rattle.tables.proofs.Cutting.{lines_length, lines_first, lines_none, total_first, marks_first}
use Rattle.tables.proofs.Lines.{maybe_row, line_row, line_skip, line_none, line_turn, line_kids}
use native.Mathlib.Omega.{arith}
use Rattle.tables.proofs.table.put_lines.Goals.{then-is_filled_row, else-is_filled_row}
use Rattle.tables.proofs.table.put_lines.Goals as goal

pub loop-r-init : goal.loop-r-init
loop-r-init c =
    let a = c.args in (
      c.requires.0,
      due_all a.text.now (bar_lines (cut_rows (filled (table_lengths a.tree.now.sheet.now a.tree.now.nodes.now a.from a.to)) (drop a.src a.text.now.room.now))),
      omega arith,
      refl,
    )

pub is_filled_row-requires : goal.is_filled_row-requires
is_filled_row-requires c =
    let a = c.args in
    maybe_row a.tree.now.sheet.now a.tree.now.nodes.now c.loop-r.r a.to c.loop-r.invariant.0 c.loop-r-test.true

pub node_end-last-requires : goal.node_end-last-requires
node_end-last-requires c = (c.is_filled_row.ensures.row c.if-is_filled_row.true).1.is_element.inside

pub put_row-requires : goal.put_row-requires
put_row-requires c =
    let a = c.args in
    let l = c.loop-r in
    let x = line_row a.tree.now.sheet.now a.tree.now.nodes.now l.r a.to l.invariant.0 c.loop-r-test.true c.is_filled_row.ensures.row c.is_filled_row.ensures.filled c.if-is_filled_row.true in
    let e = line_turn x c.node_end-last.ensures in
    let p = lines_length (filled (table_lengths a.tree.now.sheet.now a.tree.now.nodes.now l.r a.to)) (drop l.at a.text.now.room.now) (omega (arith, length-drop l.at a.text.now.room.now, l.invariant.3, c.requires.2)) in
    let q = lines_length (filled (table_lengths a.tree.now.sheet.now a.tree.now.nodes.now a.from a.to)) (drop a.src a.text.now.room.now) (omega (arith, length-drop a.src a.text.now.room.now, c.requires.2)) in (
      line_kids x c.node_end-last.ensures,
      omega (arith, p, q, due_room l.invariant.1, total_first e, marks_first e, c.requires.1, l.invariant.2),
      omega (arith, l.invariant.1.puts.puts.long, total_first e, l.invariant.3, c.requires.2),
    )

pub row_bytes-at-requires : goal.row_bytes-at-requires
row_bytes-at-requires c =
    let a = c.args in
    let l = c.loop-r in
    let x = line_row a.tree.now.sheet.now a.tree.now.nodes.now l.r a.to l.invariant.0 c.loop-r-test.true c.is_filled_row.ensures.row c.is_filled_row.ensures.filled c.if-is_filled_row.true in
    (line_kids x c.node_end-last.ensures, omega (arith, total_first (line_turn x c.node_end-last.ensures), l.invariant.3, c.requires.2))

pub overflow_add-at : goal.overflow_add-at
overflow_add-at c =
    let a = c.args in
    let l = c.loop-r in
    let x = line_row a.tree.now.sheet.now a.tree.now.nodes.now l.r a.to l.invariant.0 c.loop-r-test.true c.is_filled_row.ensures.row c.is_filled_row.ensures.filled c.if-is_filled_row.true in
    omega (arith, total_first (line_turn x c.node_end-last.ensures), c.row_bytes-at.ensures, l.invariant.3, c.requires.2)

pub loop-r-preserved : goal.loop-r-preserved
loop-r-preserved c =
    let a = c.args in
    let l = c.loop-r in
    elim c.if-is_filled_row.branch [
      | then-is_filled_row w ↦
          let x = line_row a.tree.now.sheet.now a.tree.now.nodes.now l.r a.to l.invariant.0 c.loop-r-test.true c.is_filled_row.ensures.row c.is_filled_row.ensures.filled w.if-is_filled_row.true in
          let lens : List ℕ = cell_lengths a.tree.now.sheet.now a.tree.now.nodes.now l.r (l.r + 1) w.node_end-last.result in
          let more : List (List ℕ) = filled (table_lengths a.tree.now.sheet.now a.tree.now.nodes.now (l.r + 1) a.to) in
          let e = line_turn x w.node_end-last.ensures in
          let p = lines_length (filled (table_lengths a.tree.now.sheet.now a.tree.now.nodes.now l.r a.to)) (drop l.at a.text.now.room.now) (omega (arith, length-drop l.at a.text.now.room.now, l.invariant.3, c.requires.2)) in
          let q = lines_length (filled (table_lengths a.tree.now.sheet.now a.tree.now.nodes.now a.from a.to)) (drop a.src a.text.now.room.now) (omega (arith, length-drop a.src a.text.now.room.now, c.requires.2)) in
          let f = puts_behind l.at l.invariant.1.puts (omega (arith, p, q, due_room l.invariant.1, c.requires.1, l.invariant.2)) in (
            x.behind,
            due_as (due_on l.invariant.1
                (lines_first e l.at a.text.now.room.now ∙ ap (λ (k : ℕ). bar_line (cuts lens (drop l.at a.text.now.room.now)) ++ bar_lines (cut_rows more (drop k a.text.now.room.now))) (omega (arith, w.row_bytes-at.ensures, w.at-is)))
                (puts_text (ap bar_line (append-nil (cuts lens (drop l.at l.text.room.now))) ∙ ap (λ (z : List ℕ). bar_line (cuts lens z)) f) w.put_row.ensures)) w.text-is refl,
            omega (arith, w.at-is, l.invariant.2),
            omega (arith, total_first e, w.row_bytes-at.ensures, l.invariant.3, w.at-is),
          )
      | else-is_filled_row w ↦
          let x = line_skip a.tree.now.sheet.now a.tree.now.nodes.now l.r a.to l.invariant.0 c.loop-r-test.true c.is_filled_row.ensures.row c.is_filled_row.ensures.filled w.if-is_filled_row.false in (
            (x.more, x.behind),
            due_as l.invariant.1 w.text-is (ap₂ (λ (z : List (List ℕ)) (k : ℕ). bar_lines (cut_rows z (drop k a.text.now.room.now))) x.lengths_are (sym w.at-is)),
            omega (arith, w.at-is, l.invariant.2),
            omega (arith, ap (λ (z : List (List ℕ)). sum (concat z)) x.lengths_are, l.invariant.3, w.at-is),
          )
    ]

pub returns : goal.returns
returns c =
    let a = c.args in
    due_done c.loop-r.invariant.1 (lines_none _ (line_none a.tree.now.sheet.now a.tree.now.nodes.now c.loop-r.r a.to c.loop-r-test.false))
