use mathlib.Core.Path.{sym, ap, ◌∙◌}
use mathlib.Core.List.{[], ◌∷◌}
use Rattle.spec.specs.Bytes.{ends_with}
use Rattle.spec.specs.Out.{keep, push}
use Rattle.spec.specs.Md.Ctx.{break_of}
use Rattle.text.specs.Texts.{bytes}
use Rattle.text.proofs.Texts.{as_step, kept}
use Rattle.text.proofs.Writing.{yes}
use Rattle.lists_links.proofs.list.end_item.Goals as goal

pub returns-then-ends_with_byte : goal.returns-then-ends_with_byte
returns-then-ends_with_byte c =
    let a = c.args.text.now in
    let e = ap (ends_with (10 ∷ [])) (sym c.bytes.ensures) ∙ sym c.ends_with_byte.ensures ∙ c.if-ends_with_byte.true in
    as_step (yes (keep (bytes a)) (push (break_of c.args.item.ctx) (bytes a)) e) (kept a)
