use mathlib.Core.Path.{◌∙◌}
use Rattle.tree.specs.Memory.{place_at}
use Rattle.tree.proofs.Unskipped.{unskipped}
use Rattle.nodes.proofs.nodes.node_is_skipped.Goals as goal

pub returns-in-None : goal.returns-in-None
returns-in-None c =
    let t = c.args.tree.now in
    rw c.in-None.is (unskipped t.sheet.now (place_at t.nodes.now c.args.i) (λ e. c.if-node_number-ne0.true (c.node_number.ensures ∙ c.requires.numbered ∙ e)))
