use lib.ListN.{take, drop}
use Rattle.text.specs.Texts.{bytes}
use Rattle.text.proofs.Texts.{as_step}
use Rattle.tables.proofs.TableRows.{rows_at}
use Rattle.tables.proofs.TableTexts.{headed_yes, headed_no, first_row, headed_kids, headed_sum, headed_few, plain_kids, plain_sum, plain_few}
use native.Mathlib.Omega.{arith}
use Rattle.tables.proofs.table.push_table.Goals as goal

pub all_th-requires : goal.all_th-requires
all_th-requires c =
    ((first_row c.requires.0).0, (first_row c.requires.0).1)

pub push_headed-requires : goal.push_headed-requires
push_headed-requires c =
    let x = c.requires.0 in (
      headed_kids x c.requires.2 c.node_end-end.ensures,
      (first_row x).2,
      c.requires.1,
      headed_sum x c.requires.2 c.node_end-end.ensures,
      omega (arith, headed_few x c.requires.2 c.node_end-end.ensures, x.inside),
    )

pub returns-then-all_th : goal.returns-then-all_th
returns-then-all_th c =
    let a = c.args in
    let x = c.requires.0 in
    λ self opts rows r e f. as_step (headed_yes self opts c.all_th.result c.all_th.ensures x.some_row x.some_cell (take a.n (drop a.text.now.len a.text.now.room.now)) (bytes a.text.now) rows r e f c.node_end-end.result c.node_end-end.ensures c.if-all_th.true) c.push_headed.ensures

pub push_headed-requires-2 : goal.push_headed-requires-2
push_headed-requires-2 c =
    let a = c.args in
    let x = c.requires.0 in (
      plain_kids x c.requires.2,
      (x.rows, rows_at a.tree.now.sheet.now a.tree.now.nodes.now a.first a.to x.rows x.at),
      c.requires.1,
      plain_sum x c.requires.2,
      omega (arith, plain_few x c.requires.2, x.inside),
    )

pub returns : goal.returns
returns c =
    let a = c.args in
    let x = c.requires.0 in
    λ self opts rows r e f. as_step (headed_no self opts c.all_th.result c.all_th.ensures x.some_row x.some_cell (take a.n (drop a.text.now.len a.text.now.room.now)) (bytes a.text.now) rows r e f c.if-all_th.false) c.push_headed-2.ensures
