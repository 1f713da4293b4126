use Rattle.std.proofs.Common.{◌+◌, drop, arith}
use lib.ListN.{length-drop}
use Rattle.tables.specs.Spans.{cell_lengths, table_lengths, filled}
use Rattle.tables.proofs.Putting.{puts_next, puts_text, puts_end, puts_long, puts_behind}
use Rattle.tables.proofs.Cutting.{row_put, rule_put, table_is}
use Rattle.tables.proofs.table.put_table.Goals as goal

pub put_rule-requires : goal.put_rule-requires
put_rule-requires c =
    let a = c.args in let p = c.put_byte.ensures in let r = c.put_row.ensures in
    let lens = cell_lengths a.tree.now.sheet.now a.tree.now.nodes.now a.row (a.row + 1) a.end in
    let t = c.put_byte.new.text.room.now in
    let row = row_put lens (drop a.src t) 32 a.blanks (omega (arith, length-drop a.src t, puts_long p, c.requires.2, c.requires.5)) in
    (c.requires.0, omega (arith, row, puts_end p, puts_end r, puts_long p, puts_long r, c.requires.2, c.requires.4, c.requires.5))

pub put_lines-requires : goal.put_lines-requires
put_lines-requires c =
    let a = c.args in let p = c.put_byte.ensures in let r = c.put_row.ensures in let u = c.put_rule.ensures in
    let lens = cell_lengths a.tree.now.sheet.now a.tree.now.nodes.now a.row (a.row + 1) a.end in
    let t = c.put_byte.new.text.room.now in
    let row = row_put lens (drop a.src t) 32 a.blanks (omega (arith, length-drop a.src t, puts_long p, c.requires.2, c.requires.5)) in (
      c.requires.1,
      omega (arith, row, rule_put lens 45 a.blanks, puts_end p, puts_end r, puts_end u, c.requires.2, c.requires.4),
      omega (arith, puts_long p, puts_long r, puts_long u, c.requires.5),
    )

pub returns : goal.returns
returns c =
    let a = c.args in let p = c.put_byte.ensures in let r = c.put_row.ensures in let u = c.put_rule.ensures in
    let lens = cell_lengths a.tree.now.sheet.now a.tree.now.nodes.now a.row (a.row + 1) a.end in
    let rows = filled (table_lengths a.tree.now.sheet.now a.tree.now.nodes.now a.from a.to) in
    let t = c.put_byte.new.text.room.now in
    let row = row_put lens (drop a.src t) 32 a.blanks (omega (arith, length-drop a.src t, puts_long p, c.requires.2, c.requires.5)) in
    let q = puts_next (puts_next p r) u in
    let near = puts_behind a.src p (omega (arith, puts_end p, c.requires.4)) in
    let far = puts_behind (a.src + a.bytes) q (omega (arith, row, rule_put lens 45 a.blanks, puts_end p, puts_end r, puts_end u, c.requires.2, c.requires.4)) in
    puts_text (table_is lens rows a.text.now.room.now t _ a.src a.bytes a.blanks near far c.requires.2 c.requires.3) (puts_next q c.put_lines.ensures)
