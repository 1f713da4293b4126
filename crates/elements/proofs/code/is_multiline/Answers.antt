use mathlib.Core.Path.{sym, ◌∙◌}
use native.Mathlib.Omega.{arith}
use Rattle.nodes.proofs.Numbers.{node_in}
use Rattle.tree.specs.Nodes.{text_at}
use Rattle.tree.proofs.NodeFields.{of_node}
use Rattle.elements.proofs.Multilines.{line_numbers, line_here, line_on, line_none}
use Rattle.elements.proofs.code.is_multiline.Goals as goal

pub field-requires : goal.field-requires
field-requires c =
    let a = c.args in let t = a.tree.now in let n = node_in t.sheet.now t.nodes.now c.loop-i.i a.from a.to c.requires c.loop-i.invariant.0 c.loop-i-test.true in (n.inside, n.placed)

pub returns-then-is_multiline_text : goal.returns-then-is_multiline_text
returns-then-is_multiline_text c =
    let a = c.args in let t = a.tree.now in
    λ parent f h. sym (line_numbers t.sheet.now t.nodes.now parent a.from a.to f h ∙ (c.loop-i.invariant.1
    ∙ line_here t.sheet.now t.nodes.now a.to c.loop-i.i c.loop-i-test.true (c.text.ensures ∙ of_node text_at c.field.ensures) (sym c.is_multiline_text.ensures ∙ c.if-is_multiline_text.true)))

pub loop-i-preserved : goal.loop-i-preserved
loop-i-preserved c =
    let a = c.args in let t = a.tree.now in (
      omega (arith, c.loop-i.invariant.0),
      c.loop-i.invariant.1
          ∙ line_on t.sheet.now t.nodes.now a.to c.loop-i.i c.loop-i-test.true (c.text.ensures ∙ of_node text_at c.field.ensures) (sym c.is_multiline_text.ensures ∙ c.if-is_multiline_text.false),
    )

pub returns : goal.returns
returns c =
    let a = c.args in let t = a.tree.now in
    λ parent f h. sym (line_numbers t.sheet.now t.nodes.now parent a.from a.to f h ∙ (c.loop-i.invariant.1 ∙ line_none t.sheet.now t.nodes.now a.to c.loop-i.i c.loop-i-test.false))
