use Rattle.text.proofs.Writing.{stops}
use Prim.Native.Nat.{◌<◌, ◌^◌}
use mathlib.Core.Path.{sym, subst, ◌∙◌}
use lib.Dec.{lit<}
use Rattle.spec.specs.declared.ctx.FormatOpts.{FormatOpts}
use Rattle.input.specs.Scans.{skip_of}
use Rattle.serializer.specs.Writers.{Fits}
use Rattle.md.proofs.Starting.{without, inside_reaches, inside_done, inside_full}
use Rattle.md.proofs.call.write_inside.Goals as goal

pub returns : goal.returns
returns c =
    let a = c.args in
    inside_done (skip_of a.serializer.now.skip) a.serializer.now.sheet.now a.nodes.now a.start _ c.requires c.node_end-end.ensures a.text.now (c.of-bits.ensures ∙ c.new.ensures) c.write_behind.ensures.writes_forest c.in_ok-n.was c.trimmed.ensures

pub returns-in_err-n : goal.returns-in_err-n
returns-in_err-n c =
    stops c.from_residual.ensures.0 (let a = c.args in
    inside_full (skip_of a.serializer.now.skip) a.serializer.now.sheet.now a.nodes.now a.start _ c.requires c.node_end-end.ensures a.text.now (c.of-bits.ensures ∙ c.new.ensures) c.write_behind.ensures.writes_forest c.in_err-n.was)

pub of-bits-requires : goal.of-bits-requires
of-bits-requires c =
    subst (λ (o : FormatOpts). o.offset < 2 ^ 48) (sym c.new.ensures) (lit< tt)

pub write_behind-requires : goal.write_behind-requires
write_behind-requires c =
    let a = c.args in (
      (without (skip_of a.serializer.now.skip) a.serializer.now.sheet.now a.nodes.now a.start _ c.requires c.node_end-end.ensures).at,
      subst (λ (o : FormatOpts). Fits o 101) (sym (c.of-bits.ensures ∙ c.new.ensures)) (lit< tt),
    )

pub trimmed-requires : goal.trimmed-requires
trimmed-requires c =
    let a = c.args in
    inside_reaches (skip_of a.serializer.now.skip) a.serializer.now.sheet.now a.nodes.now a.start _ c.requires c.node_end-end.ensures a.text.now (c.of-bits.ensures ∙ c.new.ensures) c.write_behind.ensures.writes_forest c.in_ok-n.was
