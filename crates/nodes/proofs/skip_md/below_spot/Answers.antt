use Prim.Native.Nat.{ℕ}
use mathlib.Core.Path.{ap, sym, ◌∙◌}
use Rattle.spec.specs.Call.{tags_to_skip}
use Rattle.tree.specs.Nodes.{skipped_at}
use Rattle.input.specs.Scans.{skip_of}
use Rattle.nodes.specs.declared.skip_md.Spot.{Spot}
use Rattle.tree.proofs.NodeFields.{of_node, tag_of_node}
use Rattle.nodes.proofs.Spots.{below_skipped, below_in, below_other}
use Rattle.nodes.proofs.skip_md.below_spot.Goals as goal

abbrev at_end : ℕ → ℕ → Spot
at_end o k = record { «open» = o; at = k }

pub returns-then-is_skipped : goal.returns-then-is_skipped
returns-then-is_skipped c =
    let skips = tags_to_skip (skip_of c.args.skip) in
    ap (at_end c.args.«open») c.node_end.ensures
    ∙ sym (below_skipped skips c.args.tree.now.sheet.now c.args.tree.now.nodes.now c.args.«open» c.args.at (sym (of_node (skipped_at skips) c.field-field.ensures) ∙ (sym c.is_skipped.ensures ∙ c.if-is_skipped.true)))

pub returns-then-tag-eq-OPEN : goal.returns-then-tag-eq-OPEN
returns-then-tag-eq-OPEN c =
    let skips = tags_to_skip (skip_of c.args.skip) in
    sym (below_in skips c.args.tree.now.sheet.now c.args.tree.now.nodes.now c.args.«open» c.args.at (sym (of_node (skipped_at skips) c.field-field.ensures) ∙ (sym c.is_skipped.ensures ∙ c.if-is_skipped.false))
    (sym (tag_of_node c.field-field.ensures c.tag.ensures) ∙ c.if-tag-eq-OPEN.true))

pub returns : goal.returns
returns c =
    let skips = tags_to_skip (skip_of c.args.skip) in
    sym (below_other skips c.args.tree.now.sheet.now c.args.tree.now.nodes.now c.args.«open» c.args.at (sym (of_node (skipped_at skips) c.field-field.ensures) ∙ (sym c.is_skipped.ensures ∙ c.if-is_skipped.false))
    (λ q. c.if-tag-eq-OPEN.false (tag_of_node c.field-field.ensures c.tag.ensures ∙ q)))
