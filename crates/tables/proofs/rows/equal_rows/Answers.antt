use mathlib.Core.Path.{ap, sym, ◌∙◌}
use Prim.Native.Nat.{ℕ}
use Rattle.spec.specs.Md.Elements.Table.{equal_rows}
use Rattle.tables.proofs.TableRows.{rows_node, rows_here, rows_on, rows_none}
use Rattle.tables.proofs.RowTests.{some_row, equal_no, equal_on}
use Rattle.tables.proofs.rows.equal_rows.Goals.{then-node_name-eq-TR+else-common-n, else-node_name-eq-TR}
use Rattle.tables.proofs.rows.equal_rows.Goals as goal

pub node_name-requires : goal.node_name-requires
node_name-requires c =
    let q = c.loop-r.invariant c.requires.0 c.requires.1 in
    rows_node c.args.tree.now.sheet.now c.args.tree.now.nodes.now c.loop-r.r c.args.to q.0 q.1 c.loop-r-test.true

pub count_cells-n-requires : goal.count_cells-n-requires
count_cells-n-requires c =
    let q = c.loop-r.invariant c.requires.0 c.requires.1 in
    let x = rows_here c.args.tree.now.sheet.now c.args.tree.now.nodes.now c.loop-r.r c.args.to q.0 q.1 c.loop-r-test.true (sym c.node_name.ensures ∙ c.if-node_name-eq-TR.true) in
    some_row q.0 x c.loop-r-test.true

pub returns-then-common-n : goal.returns-then-common-n
returns-then-common-n c = λ rows y.
    let q = c.loop-r.invariant rows y in
    let x = rows_here c.args.tree.now.sheet.now c.args.tree.now.nodes.now c.loop-r.r c.args.to q.0 q.1 c.loop-r-test.true (sym c.node_name.ensures ∙ c.if-node_name-eq-TR.true) in
    sym (q.2 ∙ equal_no c.count_cells-n.result c.count_cells-n.ensures c.loop-r.common q.0 x c.loop-r-test.true c.if-common-n.true)

pub loop-r-preserved : goal.loop-r-preserved
loop-r-preserved c = λ rows y.
    let sh = c.args.tree.now.sheet.now in let ns = c.args.tree.now.nodes.now in
    let q = c.loop-r.invariant rows y in let l = c.loop-r-test.true in
    elim c.if-node_name-eq-TR.branch [
      | then-node_name-eq-TR+else-common-n w ↦
          let x = rows_here sh ns c.loop-r.r c.args.to q.0 q.1 l (sym c.node_name.ensures ∙ w.if-node_name-eq-TR.true) in
          let m = equal_on w.count_cells-n.result w.count_cells-n.ensures c.loop-r.common q.0 x l w.if-common-n.false in
          (m.0, m.1, q.2 ∙ m.2 ∙ ap (λ (n : ℕ). equal_rows n m.0) (sym w.common-is))
      | else-node_name-eq-TR w ↦
          (q.0, rows_on sh ns c.loop-r.r c.args.to q.0 q.1 l (λ n. w.if-node_name-eq-TR.false (c.node_name.ensures ∙ n)), q.2 ∙ ap (λ (n : ℕ). equal_rows n q.0) (sym w.common-is))
    ]

pub returns : goal.returns
unfolding equal_rows
returns c = λ rows x.
    let q = c.loop-r.invariant rows x in
    sym (q.2 ∙ ap (equal_rows c.loop-r.common) (rows_none c.args.tree.now.sheet.now c.args.tree.now.nodes.now c.loop-r.r c.args.to q.0 q.1 c.loop-r-test.false))
