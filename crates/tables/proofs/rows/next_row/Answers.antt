use native.Mathlib.Omega.{arith}
use mathlib.Core.Path.{sym, ◌∙◌}
use Rattle.tables.proofs.TableRows.{rows_node, rows_here, rows_on, rows_ended, rows_le}
use Rattle.tables.proofs.rows.next_row.Goals as goal

pub node_name-requires : goal.node_name-requires
node_name-requires c =
    rows_node c.args.tree.now.sheet.now c.args.tree.now.nodes.now c.loop-r.r c.args.to c.requires.0 (c.loop-r.invariant.1 c.requires.0 c.requires.1) c.loop-r-test.true

pub returns-then-node_name-eq-TR : goal.returns-then-node_name-eq-TR
returns-then-node_name-eq-TR c =
    let l = c.loop-r in record {
      later = l.invariant.0;
      rows = λ rows x. rows_here c.args.tree.now.sheet.now c.args.tree.now.nodes.now l.r c.args.to rows (l.invariant.1 rows x) c.loop-r-test.true (sym c.node_name.ensures ∙ c.if-node_name-eq-TR.true);
    }

pub loop-r-preserved : goal.loop-r-preserved
loop-r-preserved c =
    let l = c.loop-r in (
      omega (arith, l.invariant.0),
      λ rows x. rows_on c.args.tree.now.sheet.now c.args.tree.now.nodes.now l.r c.args.to rows (l.invariant.1 rows x) c.loop-r-test.true (λ q. c.if-node_name-eq-TR.false (c.node_name.ensures ∙ q)),
    )

pub returns : goal.returns
returns c =
    let l = c.loop-r in record {
      later = rows_le c.args.tree.now.sheet.now c.args.tree.now.nodes.now c.args.i c.args.to c.requires.0 c.requires.1;
      rows = λ rows x. rows_ended c.args.tree.now.sheet.now c.args.tree.now.nodes.now l.r c.args.to rows (l.invariant.1 rows x) c.loop-r-test.false;
    }
