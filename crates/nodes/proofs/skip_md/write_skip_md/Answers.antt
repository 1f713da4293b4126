use mathlib.Core.Path.{sym, ◌∙◌}
use Rattle.text.specs.Texts.{bytes}
use Rattle.spec.specs.Call.{tags_to_skip}
use Rattle.tree.specs.Nodes.{skipped_at}
use Rattle.input.specs.Scans.{skip_of}
use Rattle.text.proofs.Texts.{as_step, kept}
use Rattle.tree.proofs.NodeFields.{of_node}
use Rattle.nodes.proofs.Spots.{whole_skipped, whole_written}
use Rattle.nodes.proofs.skip_md.write_skip_md.Goals as goal

pub returns-then-is_skipped : goal.returns-then-is_skipped
returns-then-is_skipped c =
    let skips = tags_to_skip (skip_of c.args.skip) in
    λ name attrs kids x. as_step (whole_skipped skips c.args.opts x (bytes c.args.text.now) (sym (of_node (skipped_at skips) c.field.ensures) ∙ (sym c.is_skipped.ensures ∙ c.if-is_skipped.true)))
    (kept c.args.text.now)

pub returns : goal.returns
returns c =
    let skips = tags_to_skip (skip_of c.args.skip) in
    λ name attrs kids x. as_step (whole_written skips c.args.opts x (bytes c.args.text.now) (sym (of_node (skipped_at skips) c.field.ensures) ∙ (sym c.is_skipped.ensures ∙ c.if-is_skipped.false)))
    (c.write_open_skip_md.ensures name attrs kids x)
