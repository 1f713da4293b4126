use native.Mathlib.Omega.{arith}
use mathlib.Core.Path.{sym, ap, ◌∙◌}
use mathlib.Core.Bool.{Bool, not, ◌&&◌}
use Rattle.spec.specs.Md.Elements.Table.{equal_rows, data_rows}
use Rattle.tables.proofs.RowTests.{some_row, writable_none, writable_some}
use Rattle.tables.proofs.rows.is_table_node_writable.Goals as goal

pub returns-then-to-first : goal.returns-then-to-first
returns-then-to-first c = λ parent kids rows h x. sym (writable_none c.args.tree.now.sheet.now c.args.tree.now.nodes.now c.args.first c.args.to kids rows x c.if-to-first.true)

pub returns-then-has_element : goal.returns-then-has_element
returns-then-has_element c = λ parent kids rows h x.
    sym (writable_some c.args.tree.now.sheet.now c.args.tree.now.nodes.now c.args.first c.args.to kids rows x (omega (arith, c.if-to-first.false))
    ∙ ap (λ (b : Bool). not b && equal_rows 0 (data_rows rows)) (sym (c.has_element.ensures parent kids h) ∙ c.if-has_element.true))

pub data_from-data-requires : goal.data_from-data-requires
data_from-data-requires c = some_row c.requires.1.0 c.requires.1.1 (omega (arith, c.if-to-first.false))

pub returns : goal.returns
returns c = λ parent kids rows h x.
    c.equal_rows.ensures (data_rows rows) (c.data_from-data.ensures c.args.to rows x (omega (arith, c.if-to-first.false)))
    ∙ sym (writable_some c.args.tree.now.sheet.now c.args.tree.now.nodes.now c.args.first c.args.to kids rows x (omega (arith, c.if-to-first.false))
    ∙ ap (λ (b : Bool). not b && equal_rows 0 (data_rows rows)) (sym (c.has_element.ensures parent kids h) ∙ c.if-has_element.false))
