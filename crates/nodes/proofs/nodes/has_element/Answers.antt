use mathlib.Core.Path.{sym, ◌∙◌}
use Rattle.nodes.proofs.Numbers.{node_in, has_numbers, named_here, named_on, named_none}
use native.Mathlib.Omega.{arith}
use Rattle.nodes.proofs.nodes.has_element.Goals as goal

pub node_name-requires : goal.node_name-requires
node_name-requires c =
    node_in c.args.tree.now.sheet.now c.args.tree.now.nodes.now c.loop-i.i c.args.from c.args.to c.requires.0 c.loop-i.invariant.0 c.loop-i-test.true

pub returns-then-node_name-name : goal.returns-then-node_name-name
returns-then-node_name-name c =
    let l = c.loop-i in
    λ parent f h. sym (has_numbers c.args.tree.now.sheet.now c.args.tree.now.nodes.now c.args.name parent c.args.from c.args.to f c.requires.1 h ∙ (l.invariant.1 ∙ named_here c.args.name c.args.tree.now.sheet.now c.args.tree.now.nodes.now c.args.to l.i c.loop-i-test.true (sym c.node_name.ensures ∙ c.if-node_name-name.true)))

pub loop-i-preserved : goal.loop-i-preserved
loop-i-preserved c =
    let l = c.loop-i in
    (omega arith, l.invariant.1 ∙ named_on c.args.name c.args.tree.now.sheet.now c.args.tree.now.nodes.now c.args.to l.i c.loop-i-test.true (λ q. c.if-node_name-name.false (c.node_name.ensures ∙ q)))

pub returns : goal.returns
returns c =
    let l = c.loop-i in
    λ parent f h. sym (has_numbers c.args.tree.now.sheet.now c.args.tree.now.nodes.now c.args.name parent c.args.from c.args.to f c.requires.1 h ∙ (l.invariant.1 ∙ named_none c.args.name c.args.tree.now.sheet.now c.args.tree.now.nodes.now c.args.to l.i c.loop-i-test.false))
