use mathlib.Core.Path.{sym, ap, ◌∙◌}
use mathlib.Core.Bool.{Bool, cond}
use mathlib.Core.List.{[], ◌∷◌, ◌++◌}
use Rattle.spec.specs.Bytes.{ascii}
use Rattle.spec.specs.Out.{push}
use Rattle.text.specs.Texts.{bytes}
use Rattle.text.proofs.Texts.{as_step, pushes_nothing, push_next, push_stopped}
use Rattle.elements.proofs.pre.push_word_byte.Goals as goal

pub returns-then-has : goal.returns-then-has
returns-then-has c =
    let a = c.args in
    as_step (ap (λ (t : Bool). push (cond t [] (cond a.lead (ascii " ") [] ++ (a.b ∷ []))) (bytes a.text.now)) (sym c.has.ensures ∙ c.if-has.true)) (pushes_nothing a.text.now)

pub returns : goal.returns
returns c =
    let a = c.args in
    as_step (ap (λ (t : Bool). push (cond t [] (cond a.lead (ascii " ") [] ++ (a.b ∷ []))) (bytes a.text.now)) (sym c.has.ensures ∙ c.if-has.false))
    (push_next (cond a.lead (ascii " ") []) (a.b ∷ []) c.in_ok-push_byte_if.was c.push_byte_if.ensures c.push_byte.ensures)

pub returns-in_err-push_byte_if : goal.returns-in_err-push_byte_if
returns-in_err-push_byte_if c =
    let a = c.args in
    as_step (ap (λ (t : Bool). push (cond t [] (cond a.lead (ascii " ") [] ++ (a.b ∷ []))) (bytes a.text.now)) (sym c.has.ensures ∙ c.if-has.false))
    (push_stopped (cond a.lead (ascii " ") []) (a.b ∷ []) c.in_err-push_byte_if.was c.push_byte_if.ensures c.from_residual.ensures.0)
