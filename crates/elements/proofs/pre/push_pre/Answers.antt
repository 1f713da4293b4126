use Rattle.std.proofs.Common.{Bor, ap, refl, sym, ◌∙◌, take, drop}
use Rattle.spec.specs.Bytes.{Bytes}
use Rattle.spec.specs.Md.Elements.Code.{sanitize_attr_value}
use Rattle.text.specs.Texts.{bytes}
use Rattle.text.proofs.Texts.{as_step}
use Rattle.elements.specs.PreStep.{pre_step}
use Rattle.elements.proofs.Languages.{language_or}
use Rattle.elements.proofs.pre.push_pre.Goals as goal

pub returns : goal.returns
returns c =
    let a = c.args in let t = a.text.now in
    λ name attrs kids anc x y. as_step
    (ap (λ (l : Bytes). pre_step l (take a.n (drop t.len t.room.now)) (bytes t))
    (language_or _ refl (c.find_code_language.ensures name attrs kids anc x y) ∙ ap (λ (z : Bor Bytes). sanitize_attr_value z.now) (sym c.unwrap_or-language.ensures))) c.push_fenced_block.ensures
