use mathlib.Core.Path.{refl, ap, sym, ◌∙◌}
use Rattle.spec.specs.Md.Elements.Table.{all_th}
use Rattle.nodes.proofs.Siblings.{over_begun, gives_before, gives_next, gives_over, gives_none}
use Rattle.tables.proofs.TableCells.{cells_all, cells_at, cells_node, cells_none, th_on, th_not}
use Rattle.tables.proofs.rows.all_th.Goals as goal

pub loop-c-init : goal.loop-c-init
loop-c-init c =
    let b = over_begun c.siblings-c-items.ensures c.into_iter-c-iterator.ensures.into_iter_gives c.node_end.ensures in
    (b.0, λ row x. (row, cells_at (cells_all x) b.1, refl))

pub node_name-requires : goal.node_name-requires
node_name-requires c =
    let l = c.loop-c.invariant in let s = c.in-Some.ensures.steps in
    cells_node (cells_at (l.1 c.requires.0 c.requires.1).1 s.0) (gives_before l.0 s)

pub returns-then-node_name-eq-TD : goal.returns-then-node_name-eq-TD
returns-then-node_name-eq-TD c = λ row x.
    let l = c.loop-c.invariant in let s = c.in-Some.ensures.steps in let q = l.1 row x in
    sym (q.2 ∙ th_not (cells_at q.1 s.0) (gives_before l.0 s) (sym c.node_name.ensures ∙ c.if-node_name-eq-TD.true))

pub loop-c-preserved : goal.loop-c-preserved
loop-c-preserved c =
    let l = c.loop-c.invariant in let s = c.in-Some.ensures.steps in (
      gives_over l.0 s,
      λ row x.
          let q = l.1 row x in
          let m = th_on (cells_at q.1 s.0) (gives_before l.0 s) (gives_next l.0 s) (λ n. c.if-node_name-eq-TD.false (c.node_name.ensures ∙ n)) in
          (m.0, m.1, q.2 ∙ m.2),
    )

pub returns : goal.returns
unfolding all_th
returns c = λ row x.
    let l = c.loop-c.invariant in let q = l.1 row x in
    sym (q.2 ∙ ap all_th (cells_none q.1 (gives_none l.0 c.in-None.ensures.steps.0)))
