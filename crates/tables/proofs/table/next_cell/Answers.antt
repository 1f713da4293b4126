use native.Mathlib.Omega.{arith}
use mathlib.Core.Path.{sym, ap, ◌∙◌}
use Rattle.spec.specs.Md.Elements.Table.{is_table_cell}
use Rattle.nodes.proofs.Siblings.{gives_before, gives_next, gives_over, gives_none}
use Rattle.tables.proofs.Gathering.{looking_at, looking_first, looking_node, looking_on, looking_done, looking_ended}
use Rattle.tables.proofs.table.next_cell.Goals as goal

pub node_name-requires : goal.node_name-requires
node_name-requires c =
    let l = c.loop-c.invariant in let s = c.in-Some.ensures.steps in looking_node (looking_at l.2 s.0) (gives_before l.0 s)

pub returns-then-is_table_cell : goal.returns-then-is_table_cell
returns-then-is_table_cell c =
    let l = c.loop-c.invariant in let s = c.in-Some.ensures.steps in
    record {
      later = omega (arith, l.1, s.0);
      cells = looking_done (looking_at l.2 s.0) (λ q. sym (c.is_table_cell.ensures ∙ ap is_table_cell c.node_name.ensures) ∙ c.if-is_table_cell.true);
    }

pub loop-c-preserved : goal.loop-c-preserved
loop-c-preserved c =
    let l = c.loop-c.invariant in let s = c.in-Some.ensures.steps in let p = looking_at l.2 s.0 in (
      gives_over l.0 s,
      omega (arith, l.1, s.0, gives_next l.0 s, (looking_first p (gives_before l.0 s)).later),
      looking_at (looking_on p (gives_before l.0 s) (sym (c.is_table_cell.ensures ∙ ap is_table_cell c.node_name.ensures) ∙ c.if-is_table_cell.false)) (gives_next l.0 s),
    )

pub returns : goal.returns
returns c =
    let l = c.loop-c.invariant in let e = looking_ended l.2 (gives_none l.0 c.in-None.ensures.steps.0) in
    record {
      later = omega (arith, l.1, e);
      cells = looking_done (looking_at l.2 e) (λ q. absurd (omega arith));
    }
