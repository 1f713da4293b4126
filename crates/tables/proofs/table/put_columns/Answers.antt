use Prim.Native.Nat.{ℕ, ◌+◌}
use mathlib.Core.Path.{refl, ap, sym, subst, ◌∙◌}
use mathlib.Core.List.{List}
use lib.ListN.{drop}
use Rattle.spec.specs.Md.Elements.Table.{is_table_cell}
use Rattle.tree.proofs.Firsts.{rep_le}
use Rattle.tree.proofs.Numbers.{long_is}
use Rattle.nodes.proofs.Siblings.{gives_before, gives_next, gives_over, gives_none}
use Rattle.tables.specs.Puts.{bars}
use Rattle.tables.specs.Spans.{cell_lengths, sum}
use Rattle.tables.specs.Columns.{columns}
use Rattle.tables.proofs.Putting.{Due, due_done}
use Rattle.tables.proofs.Columns.{columns_none, column_room, column_on}
use Rattle.tables.proofs.Gathering.{child_none, child_node, child_on, child_cell, child_other, sum_first}
use native.Mathlib.Omega.{arith}
use Rattle.tables.proofs.table.put_columns.Goals as goal

pub overflow_add-row : goal.overflow_add-row
overflow_add-row c =
    omega (arith, rep_le c.args.tree.now.sheet.now c.args.tree.now.nodes.now c.args.row (c.args.row + 1) c.args.to c.requires.0.0 c.requires.0.1)

pub node_name-requires : goal.node_name-requires
node_name-requires c =
    let l = c.loop-c.invariant in let s = c.in-Some.ensures.steps in child_node l.1 s.0 (gives_before l.0 s)

pub overflow_mul-c : goal.overflow_mul-c
overflow_mul-c c =
    let l = c.loop-c.invariant in let s = c.in-Some.ensures.steps in omega (arith, (child_node l.1 s.0 (gives_before l.0 s)).inside)

pub overflow_add-c : goal.overflow_add-c
overflow_add-c c =
    let l = c.loop-c.invariant in let s = c.in-Some.ensures.steps in omega (arith, (child_node l.1 s.0 (gives_before l.0 s)).inside)

pub read-n-requires : goal.read-n-requires
read-n-requires c =
    let l = c.loop-c.invariant in let s = c.in-Some.ensures.steps in (omega (arith, (child_node l.1 s.0 (gives_before l.0 s)).inside), omega arith)

pub put_column-requires : goal.put_column-requires
put_column-requires c =
    let a = c.args in let pre = c.requires in
    let l = c.loop-c.invariant in let s = c.in-Some.ensures.steps in
    let e = child_cell l.1 s.0 (gives_before l.0 s) refl (sym (c.is_table_cell.ensures ∙ ap is_table_cell c.node_name.ensures) ∙ c.if-is_table_cell.true) (c.read-n.ensures.0 ∙ long_is _ _) in
    let room = column_room a.under e c.loop-c.at l.2 (λ q. omega (arith, pre.3 q, l.3)) in (
      λ q. omega (arith, room, pre.3 q, l.3),
      omega (arith, room, l.2.puts.puts.long, pre.1),
      omega (arith, l.2.puts.puts.long, sum_first e, l.4, pre.2),
    )

pub overflow_add-at : goal.overflow_add-at
overflow_add-at c =
    let l = c.loop-c.invariant in let s = c.in-Some.ensures.steps in
    let e = child_cell l.1 s.0 (gives_before l.0 s) refl (sym (c.is_table_cell.ensures ∙ ap is_table_cell c.node_name.ensures) ∙ c.if-is_table_cell.true) (c.read-n.ensures.0 ∙ long_is _ _) in
    omega (arith, sum_first e, l.4, c.requires.2)

pub loop-c-preserved-then-is_table_cell : goal.loop-c-preserved-then-is_table_cell
loop-c-preserved-then-is_table_cell c =
    let l = c.loop-c.invariant in let s = c.in-Some.ensures.steps in
    let e = child_cell l.1 s.0 (gives_before l.0 s) (gives_next l.0 s) (sym (c.is_table_cell.ensures ∙ ap is_table_cell c.node_name.ensures) ∙ c.if-is_table_cell.true) (c.read-n.ensures.0 ∙ long_is _ _) in (
      gives_over l.0 s,
      child_on l.1 s.0 (gives_before l.0 s) (gives_next l.0 s),
      column_on c.args.under e c.loop-c.at l.2 (λ q. omega (arith, c.requires.3 q, l.3)) c.put_column.ensures,
      omega (arith, l.3),
      omega (arith, sum_first e, l.4),
    )

pub loop-c-preserved : goal.loop-c-preserved
loop-c-preserved c =
    let a = c.args in let l = c.loop-c.invariant in let s = c.in-Some.ensures.steps in
    let e = child_other l.1 s.0 (gives_before l.0 s) (gives_next l.0 s) (sym (c.is_table_cell.ensures ∙ ap is_table_cell c.node_name.ensures) ∙ c.if-is_table_cell.false) in (
      gives_over l.0 s,
      child_on l.1 s.0 (gives_before l.0 s) (gives_next l.0 s),
      subst (λ (x : List ℕ). Due a.text.now c.loop-c.text (bars (columns a.under x (drop c.loop-c.at a.text.now.room.now))) (bars (columns a.under (cell_lengths a.tree.now.sheet.now a.tree.now.nodes.now a.row (a.row + 1) a.to) (drop a.src a.text.now.room.now)))) e l.2,
      omega (arith, l.3),
      omega (arith, ap sum e, l.4),
    )

pub returns : goal.returns
returns c =
    let a = c.args in let l = c.loop-c.invariant in
    due_done l.2 (columns_none a.under (drop c.loop-c.at a.text.now.room.now) (child_none l.1 (gives_none l.0 c.in-None.ensures.steps.0)))
