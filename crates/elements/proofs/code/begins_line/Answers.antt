use mathlib.Core.Path.{sym, ◌∙◌}
use native.Mathlib.Omega.{arith}
use Rattle.text.proofs.Reading.{rest_part}
use Rattle.nodes.proofs.Numbers.{node_in}
use Rattle.tree.specs.Nodes.{text_at}
use Rattle.tree.proofs.NodeFields.{of_node}
use Rattle.elements.proofs.Edges.{begin_here, begin_on, begin_none, begin_numbers}
use Rattle.elements.proofs.code.begins_line.Goals as goal

pub field-requires : goal.field-requires
field-requires c =
    let a = c.args in let t = a.tree.now in let n = node_in t.sheet.now t.nodes.now c.loop-i.i a.from a.to c.requires c.loop-i.invariant.0 c.loop-i-test.true in (n.inside, n.placed)

pub returns-in-len1-up : goal.returns-in-len1-up
returns-in-len1-up c =
    let a = c.args in let t = a.tree.now in
    λ parent f h. begin_here t.sheet.now t.nodes.now a.to c.loop-i.i c.loop-i-test.true (c.text-part.ensures ∙ of_node text_at c.field.ensures)
    (rest_part c.trim_start_matches.result _ ∙ c.trim_start_matches.ensures.is) c.in-len1-up.len_at_least
    ∙ sym (begin_numbers t.sheet.now t.nodes.now parent a.from a.to f h ∙ c.loop-i.invariant.1)

pub loop-i-preserved : goal.loop-i-preserved
loop-i-preserved c =
    let a = c.args in let t = a.tree.now in (
      omega (arith, c.loop-i.invariant.0),
      c.loop-i.invariant.1
          ∙ begin_on t.sheet.now t.nodes.now a.to c.loop-i.i c.loop-i-test.true (c.text-part.ensures ∙ of_node text_at c.field.ensures)
          (rest_part c.trim_start_matches.result _ ∙ c.trim_start_matches.ensures.is) (omega (arith, c.in_default.len_below)),
    )

pub returns : goal.returns
returns c =
    let a = c.args in let t = a.tree.now in
    λ parent f h. sym (begin_numbers t.sheet.now t.nodes.now parent a.from a.to f h ∙ (c.loop-i.invariant.1 ∙ begin_none t.sheet.now t.nodes.now a.to c.loop-i.i c.loop-i-test.false))
