use Rattle.std.proofs.Common.{List, [], ◌∷◌, ◌++◌, ◌+◌, length, replicate, ap, ◌∙◌, arith}
use Rattle.spec.specs.Bytes.{Bytes}
use Rattle.tables.specs.Puts.{bars, bar_line}
use Rattle.tables.specs.Spans.{cell_lengths}
use Rattle.tables.proofs.Putting.{puts_next, puts_text, puts_end, puts_long, length_bars_bytes}
use Rattle.tables.proofs.Cutting.{line_parts}
use Rattle.tables.proofs.Columns.{columns_behind}
use Rattle.tables.proofs.table.put_line.Goals as goal

pub put_columns-requires : goal.put_columns-requires
put_columns-requires c =
    let a = c.args in let pre = c.requires in let p = c.put_byte.ensures in
    let lens = cell_lengths a.tree.now.sheet.now a.tree.now.nodes.now a.row (a.row + 1) a.to in
    let same = columns_behind a.under lens a.src p (λ q. omega (arith, pre.3 q, puts_end p)) in
    let long = ap (λ (x : List Bytes). length (bars x)) same in
    (pre.0, omega (arith, long, pre.1, puts_end p, puts_long p), omega (arith, pre.2, puts_long p), λ q. omega (arith, long, pre.3 q, puts_end p))

pub put_byte_cells-requires : goal.put_byte_cells-requires
put_byte_cells-requires c =
    let a = c.args in let pre = c.requires in let p = c.put_byte.ensures in let r = c.put_columns.ensures in
    let lens = cell_lengths a.tree.now.sheet.now a.tree.now.nodes.now a.row (a.row + 1) a.to in
    let same = columns_behind a.under lens a.src p (λ q. omega (arith, pre.3 q, puts_end p)) in
    let long = ap (λ (x : List Bytes). length (bars x)) same in
    omega (arith, long, pre.1, puts_end p, puts_long p, puts_end r, puts_long r)

pub put_byte-requires-2 : goal.put_byte-requires-2
put_byte-requires-2 c =
    let a = c.args in let pre = c.requires in let p = c.put_byte.ensures in let r = c.put_columns.ensures in let b = c.put_byte_cells.ensures in
    let lens = cell_lengths a.tree.now.sheet.now a.tree.now.nodes.now a.row (a.row + 1) a.to in
    let same = columns_behind a.under lens a.src p (λ q. omega (arith, pre.3 q, puts_end p)) in
    let long = ap (λ (x : List Bytes). length (bars x)) same in
    omega (arith, long, pre.1, puts_end p, puts_long p, puts_end r, puts_long r, puts_end b, puts_long b, length_bars_bytes a.fill a.blanks)

pub returns : goal.returns
returns c =
    let a = c.args in let pre = c.requires in let p = c.put_byte.ensures in
    let lens = cell_lengths a.tree.now.sheet.now a.tree.now.nodes.now a.row (a.row + 1) a.to in
    let same = columns_behind a.under lens a.src p (λ q. omega (arith, pre.3 q, puts_end p)) in
    puts_text
    (line_parts _ (replicate a.blanks (a.fill ∷ [])) ∙ ap (λ (x : List Bytes). bar_line (x ++ replicate a.blanks (a.fill ∷ []))) same)
    (puts_next p (puts_next c.put_columns.ensures (puts_next c.put_byte_cells.ensures c.put_byte-2.ensures)))
