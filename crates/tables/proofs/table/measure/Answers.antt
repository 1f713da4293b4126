use Prim.Native.Nat.{◌+◌}
use lib.ListN.{length}
use mathlib.Core.Path.{refl, ap, sym, ◌∙◌}
use Rattle.spec.specs.Md.Elements.Table.{is_table_cell}
use Rattle.tree.proofs.Firsts.{rep_le}
use Rattle.tree.proofs.Numbers.{long_is}
use Rattle.nodes.proofs.Siblings.{gives_before, gives_next, gives_over, gives_none}
use Rattle.tables.specs.Spans.{cell_lengths, sum, zeros}
use Rattle.tables.proofs.Gathering.{few_cells, child_none, child_node, child_on, child_cell, child_other, sum_first, zeros_first, length_first, sum_none, zeros_none, zeros_few}
use native.Mathlib.Omega.{arith}
use Rattle.tables.proofs.table.measure.Goals as goal

pub overflow_add-row : goal.overflow_add-row
overflow_add-row c =
    omega (arith, rep_le c.args.tree.now.sheet.now c.args.tree.now.nodes.now c.args.row (c.args.row + 1) c.args.to c.requires.0.0 c.requires.0.1)

pub node_name-requires : goal.node_name-requires
node_name-requires c =
    let l = c.loop-c.invariant in let s = c.in-Some.ensures.steps in child_node l.1 s.0 (gives_before l.0 s)

pub overflow_mul-c : goal.overflow_mul-c
overflow_mul-c c =
    let l = c.loop-c.invariant in let s = c.in-Some.ensures.steps in omega (arith, (child_node l.1 s.0 (gives_before l.0 s)).inside)

pub overflow_add-c : goal.overflow_add-c
overflow_add-c c =
    let l = c.loop-c.invariant in let s = c.in-Some.ensures.steps in omega (arith, (child_node l.1 s.0 (gives_before l.0 s)).inside)

pub read-n-requires : goal.read-n-requires
read-n-requires c =
    let l = c.loop-c.invariant in let s = c.in-Some.ensures.steps in (omega (arith, (child_node l.1 s.0 (gives_before l.0 s)).inside), omega arith)

pub overflow_add-cells : goal.overflow_add-cells
overflow_add-cells c =
    let l = c.loop-c.invariant in let s = c.in-Some.ensures.steps in let a = c.args in
    let e = child_cell l.1 s.0 (gives_before l.0 s) refl (sym (c.is_table_cell.ensures ∙ ap is_table_cell c.node_name.ensures) ∙ c.if-is_table_cell.true) (c.read-n.ensures.0 ∙ long_is _ _) in
    omega (arith, length_first e, l.2, few_cells a.tree.now.sheet.now a.tree.now.nodes.now a.row (a.row + 1) a.to)

pub overflow_add-bytes : goal.overflow_add-bytes
overflow_add-bytes c =
    let l = c.loop-c.invariant in let s = c.in-Some.ensures.steps in
    let e = child_cell l.1 s.0 (gives_before l.0 s) refl (sym (c.is_table_cell.ensures ∙ ap is_table_cell c.node_name.ensures) ∙ c.if-is_table_cell.true) (c.read-n.ensures.0 ∙ long_is _ _) in
    omega (arith, sum_first e, l.3, c.requires.1)

pub overflow_add-empty : goal.overflow_add-empty
overflow_add-empty c =
    let l = c.loop-c.invariant in let s = c.in-Some.ensures.steps in let a = c.args in
    let e = child_cell l.1 s.0 (gives_before l.0 s) refl (sym (c.is_table_cell.ensures ∙ ap is_table_cell c.node_name.ensures) ∙ c.if-is_table_cell.true) (c.read-n.ensures.0 ∙ long_is _ _) in
    omega (arith, zeros_first e, l.4, c.at_least_one.ensures, zeros_few (cell_lengths a.tree.now.sheet.now a.tree.now.nodes.now a.row (a.row + 1) a.to), few_cells a.tree.now.sheet.now a.tree.now.nodes.now a.row (a.row + 1) a.to)

pub loop-c-preserved-then-is_table_cell : goal.loop-c-preserved-then-is_table_cell
loop-c-preserved-then-is_table_cell c =
    let l = c.loop-c.invariant in let s = c.in-Some.ensures.steps in
    let e = child_cell l.1 s.0 (gives_before l.0 s) (gives_next l.0 s) (sym (c.is_table_cell.ensures ∙ ap is_table_cell c.node_name.ensures) ∙ c.if-is_table_cell.true) (c.read-n.ensures.0 ∙ long_is _ _) in (
      gives_over l.0 s,
      child_on l.1 s.0 (gives_before l.0 s) (gives_next l.0 s),
      omega (arith, length_first e, l.2),
      omega (arith, sum_first e, l.3),
      omega (arith, zeros_first e, l.4, c.at_least_one.ensures),
    )

pub loop-c-preserved : goal.loop-c-preserved
loop-c-preserved c =
    let l = c.loop-c.invariant in let s = c.in-Some.ensures.steps in
    let e = child_other l.1 s.0 (gives_before l.0 s) (gives_next l.0 s) (sym (c.is_table_cell.ensures ∙ ap is_table_cell c.node_name.ensures) ∙ c.if-is_table_cell.false) in (
      gives_over l.0 s,
      child_on l.1 s.0 (gives_before l.0 s) (gives_next l.0 s),
      omega (arith, ap length e, l.2),
      omega (arith, ap sum e, l.3),
      omega (arith, ap zeros e, l.4),
    )

pub returns : goal.returns
returns c =
    let l = c.loop-c.invariant in let e = child_none l.1 (gives_none l.0 c.in-None.ensures.steps.0) in
    (omega (arith, ap length e, l.2), omega (arith, sum_none e, l.3), omega (arith, zeros_none e, l.4))
