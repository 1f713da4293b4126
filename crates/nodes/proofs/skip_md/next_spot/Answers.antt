use Prim.Native.Nat.{ℕ}
use mathlib.Core.Path.{ap, sym, ◌∙◌}
use Rattle.spec.specs.Call.{tags_to_skip}
use Rattle.input.specs.Scans.{skip_of}
use Rattle.nodes.specs.declared.skip_md.Spot.{Spot}
use Rattle.nodes.proofs.Spots.{next_below, next_none, next_up}
use native.Mathlib.Omega.{arith}
use Rattle.nodes.proofs.skip_md.next_spot.Goals as goal

abbrev up_to : ℕ → ℕ → Spot
up_to at k = record { «open» = k; at = at }

pub returns-then-at-node_end : goal.returns-then-at-node_end
returns-then-at-node_end c =
    c.below_spot.ensures ∙ sym (next_below (tags_to_skip (skip_of c.args.skip)) c.args.tree.now.sheet.now c.args.tree.now.nodes.now c.args.«open» c.args.at c.args.top (omega (arith, c.if-at-node_end.true, c.node_end.ensures)))

pub returns-then-open-top : goal.returns-then-open-top
returns-then-open-top c =
    sym (next_none (tags_to_skip (skip_of c.args.skip)) c.args.tree.now.sheet.now c.args.tree.now.nodes.now c.args.«open» c.args.at c.args.top (omega (arith, c.if-at-node_end.false, c.node_end.ensures)) c.if-open-top.true)

pub returns : goal.returns
returns c =
    ap (up_to c.args.at) c.node_parent.ensures
    ∙ sym (next_up (tags_to_skip (skip_of c.args.skip)) c.args.tree.now.sheet.now c.args.tree.now.nodes.now c.args.«open» c.args.at c.args.top (omega (arith, c.if-at-node_end.false, c.node_end.ensures)) c.if-open-top.false)
