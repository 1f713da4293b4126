use native.Mathlib.Omega.{arith}
use mathlib.Core.Path.{◌≡◌, refl, sym, ◌∙◌}
use Prim.Native.Nat.{ℕ, ◌-◌}
use lib.ListN.{length, take, drop}
use lib.Seq.{take-take}
use Rattle.spec.specs.Bytes.{Bytes}
use Rattle.text.specs.Texts.{bytes}
use Rattle.text.proofs.Texts.{as_step, kept}
use Rattle.tree.proofs.NodeFields.{of_node}
use Rattle.nodes.specs.TextStep.{text_step}
use Rattle.nodes.proofs.Numbers.{text_step_none, text_step_some}
use Rattle.nodes.proofs.nodes.write_text_node.Goals as goal

pub returns-then-tag-ne-TEXT : goal.returns-then-tag-ne-TEXT
returns-then-tag-ne-TEXT c =
    let o = c.args.opts in let t = bytes c.args.text.now in
    as_step
    (sym (of_node (λ (s : Bytes) (p : ℕ). text_step o s p t) c.field-field.ensures) ∙ text_step_none o _ _ t (λ q. c.if-tag-ne-TEXT.true (c.tag.ensures ∙ q)))
    (kept c.args.text.now)

pub returns : goal.returns
returns c =
    let o = c.args.opts in let t = bytes c.args.text.now in
    let part = c.text_range-part in let sheet = c.field-field.result.sheet.now in
    let behind = take (length sheet - part.result.start) (drop part.result.start sheet) in
    let cut : take (part.result.end - part.result.start) (drop part.result.start sheet) ≡ take (part.result.end - part.result.start) behind =
    sym (take-take (part.result.end - part.result.start) (length sheet - part.result.start) (drop part.result.start sheet) (omega (arith, part.ensures.inside))) in
    as_step
    (sym (of_node (λ (s : Bytes) (p : ℕ). text_step o s p t) c.field-field.ensures)
    ∙ text_step_some o sheet _ t (sym c.tag.ensures ∙ c.if-tag-ne-TEXT.false) (part.ensures.bytes_are ∙ cut))
    (c.push_text_part.ensures o refl refl refl)
