use Rattle.std.proofs.Common.{ℕ, List, not, sym, ap, ◌∙◌}
use Rattle.spec.specs.Out.{push}
use Rattle.text.specs.Texts.{bytes}
use Rattle.text.proofs.Texts.{as_step}
use Rattle.normalized.proofs.Flowing.{added_ordinary}
use Rattle.normalized.proofs.Streaming.{added_white, added_black}
use Rattle.normalized.proofs.normalize.push_byte_of.Goals as goal

pub returns-then-has : goal.returns-then-has
returns-then-has c =
    let a = c.args in
    λ rest h. as_step (ap (λ (x : List ℕ). push x (bytes a.text.now)) (added_ordinary a.escape a.b rest (sym c.has.ensures ∙ c.if-has.true))) c.push_byte.ensures

pub returns-then-has-2 : goal.returns-then-has-2
returns-then-has-2 c =
    let a = c.args in
    λ rest h. as_step (ap (λ (x : List ℕ). push x (bytes a.text.now)) (added_white a.escape a.b rest (sym c.has-2.ensures ∙ c.if-has-2.true) (ap not c.has-then-has-2.ensures ∙ h.word))) c.push_byte_if.ensures

pub returns : goal.returns
returns c =
    let a = c.args in
    λ rest h. as_step (ap (λ (x : List ℕ). push x (bytes a.text.now)) (added_black a.escape a.b rest (sym c.has-2.ensures ∙ c.if-has-2.false) (c.is_sign.ensures rest h.bracket))) c.push_escaped.ensures
