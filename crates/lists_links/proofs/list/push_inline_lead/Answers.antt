use Prim.Native.Nat.{ℕ}
use mathlib.Core.Path.{sym, ap, ◌∙◌}
use mathlib.Core.Bool.{Bool, cond, not, ◌&&◌}
use mathlib.Core.List.{[], ◌∷◌}
use lib.Dec.{ltb}
use lib.ListN.{replicate}
use lib.Seq.{length-take-le}
use Rattle.spec.specs.Bytes.{ends_with}
use Rattle.spec.specs.Out.{push}
use Rattle.text.specs.Texts.{bytes}
use Rattle.text.proofs.Texts.{as_step, pushes_nothing}
use Rattle.lists_links.proofs.list.push_inline_lead.Goals as goal

pub returns-else-at_content-is_blank_text : goal.returns-else-at_content-is_blank_text
returns-else-at_content-is_blank_text c =
    let a = c.args.text.now in let item = c.args.item in
    let e = ap (λ (k : ℕ). ltb item.start k && ends_with (10 ∷ []) (bytes a)) (length-take-le a.len a.room.now a.fits)
    ∙ ap (λ (b : Bool). ltb item.start a.len && b) (ap (ends_with (10 ∷ [])) (sym c.bytes.ensures) ∙ sym c.ends_with_byte.ensures) in
    as_step (ap (λ (b : Bool). push (cond b (replicate item.indent 32) []) (bytes a)) (ap (λ (b : Bool). b && not c.args.is_blank_text) e ∙ c.if-at_content-is_blank_text.false)) (pushes_nothing a)
