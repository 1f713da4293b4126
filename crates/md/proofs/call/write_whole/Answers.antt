use Prim.Native.Nat.{◌<◌, ◌^◌}
use mathlib.Core.Path.{refl, sym, ap, subst, ◌∙◌}
use lib.Dec.{lit<}
use native.Mathlib.Nat.{pos_of_ne-zero}
use native.Mathlib.Omega.{arith}
use Rattle.spec.specs.Md.Ctx.{include_node}
use Rattle.spec.specs.declared.ctx.FormatOpts.{FormatOpts}
use Rattle.input.specs.Scans.{skip_of}
use Rattle.text.proofs.Writing.{alike, keeps}
use Rattle.serializer.specs.Writers.{Fits}
use Rattle.md.proofs.Starting.{with_node, fragment, whole_wrote}
use Rattle.md.proofs.call.write_whole.Goals as goal

pub returns-then-start-eq0 : goal.returns-then-start-eq0
returns-then-start-eq0 c =
    let a = c.args in
    alike (fragment (skip_of a.serializer.now.skip) a.serializer.now.sheet.now a.start c.if-start-eq0.true) (record { says = keeps a.text.now 0 (omega arith) })

pub of-bits-requires : goal.of-bits-requires
of-bits-requires c =
    subst (λ (o : FormatOpts). o.offset < 2 ^ 48) (sym (c.include_node.ensures ∙ ap include_node c.new.ensures)) (lit< tt)

pub write_behind-requires : goal.write_behind-requires
write_behind-requires c =
    let a = c.args in (
      (with_node (skip_of a.serializer.now.skip) a.serializer.now.sheet.now a.nodes.now a.start _ c.requires (pos_of_ne-zero c.if-start-eq0.false) c.node_end-to.ensures).at,
      subst (λ (o : FormatOpts). Fits o 101) (sym (c.of-bits.ensures ∙ c.include_node.ensures ∙ ap include_node c.new.ensures)) (lit< tt),
    )

pub returns : goal.returns
returns c =
    let a = c.args in
    whole_wrote (skip_of a.serializer.now.skip) a.serializer.now.sheet.now a.nodes.now a.start _ c.requires (pos_of_ne-zero c.if-start-eq0.false) c.node_end-to.ensures
    (c.of-bits.ensures ∙ c.include_node.ensures ∙ ap include_node c.new.ensures) refl c.write_behind.ensures.writes_forest
