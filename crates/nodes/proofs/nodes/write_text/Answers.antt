use Prim.Native.Nat.{◌+◌}
use mathlib.Core.Path.{ap}
use Rattle.spec.specs.Out.{Step}
use Rattle.text.specs.Texts.{bytes}
use Rattle.text.proofs.Texts.{as_step, owes_step, owes_stop, owes_none}
use Rattle.nodes.proofs.Numbers.{node_in, steps, steps_on, steps_none, write_numbers}
use native.Mathlib.Omega.{arith}
use Rattle.nodes.proofs.nodes.write_text.Goals as goal

pub write_text_node-requires : goal.write_text_node-requires
write_text_node-requires c =
    node_in c.args.tree.now.sheet.now c.args.tree.now.nodes.now c.loop-i.i c.args.from c.args.to c.requires c.loop-i.invariant.0 c.loop-i-test.true

pub returns-in_err-write_text_node : goal.returns-in_err-write_text_node
returns-in_err-write_text_node c =
    let a = c.args in let t = a.tree.now in let l = c.loop-i in
    λ parent f h. as_step (ap (λ (g : Step). g (bytes a.text.now)) (write_numbers a.opts t.sheet.now t.nodes.now parent a.from a.to f h))
    (owes_stop l.invariant.1 (steps a.opts t.sheet.now t.nodes.now a.to (l.i + 1)) (steps_on a.opts t.sheet.now t.nodes.now a.to l.i (bytes l.text) c.loop-i-test.true)
    c.in_err-write_text_node.was c.write_text_node.ensures c.from_residual.ensures.0)

pub loop-i-preserved : goal.loop-i-preserved
loop-i-preserved c =
    let a = c.args in let t = a.tree.now in let l = c.loop-i in (
      omega arith,
      owes_step l.invariant.1 (steps a.opts t.sheet.now t.nodes.now a.to (l.i + 1)) (steps_on a.opts t.sheet.now t.nodes.now a.to l.i (bytes l.text) c.loop-i-test.true)
          c.in_ok-write_text_node.was c.write_text_node.ensures,
    )

pub returns : goal.returns
returns c =
    let a = c.args in let t = a.tree.now in let l = c.loop-i in
    λ parent f h. as_step (ap (λ (g : Step). g (bytes a.text.now)) (write_numbers a.opts t.sheet.now t.nodes.now parent a.from a.to f h))
    (owes_none l.invariant.1 (steps_none a.opts t.sheet.now t.nodes.now a.to l.i (bytes l.text) c.loop-i-test.false))
