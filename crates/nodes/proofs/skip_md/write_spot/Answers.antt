use Prim.Native.Nat.{ℕ}
use mathlib.Core.Path.{ap, sym, ◌∙◌}
use Rattle.text.specs.Texts.{bytes}
use Rattle.spec.specs.Md.Elements.Code.{close_skip_md}
use Rattle.text.proofs.Texts.{as_step}
use Rattle.nodes.proofs.Spots.{spot_text, spot_close}
use native.Mathlib.Omega.{arith}
use Rattle.nodes.proofs.skip_md.write_spot.Goals as goal

pub returns-then-at-node_end : goal.returns-then-at-node_end
returns-then-at-node_end c =
    as_step (spot_text c.args.opts c.args.tree.now.sheet.now c.args.tree.now.nodes.now c.args.«open» c.args.at (bytes c.args.text.now) (omega (arith, c.if-at-node_end.true, c.node_end.ensures))) c.write_text_node.ensures

pub returns : goal.returns
returns c =
    let t = bytes c.args.text.now in
    as_step (spot_close c.args.opts c.args.tree.now.sheet.now c.args.tree.now.nodes.now c.args.«open» c.args.at t (omega (arith, c.if-at-node_end.false, c.node_end.ensures)) ∙ sym (ap (λ (k : ℕ). close_skip_md k t) c.node_name-name.ensures)) c.close_skip_md.ensures
