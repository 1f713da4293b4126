use mathlib.Core.Path.{refl}
use Rattle.spec.specs.Out.{and_then}
use Rattle.spec.specs.Md.Serializer.{close_md}
use Rattle.text.proofs.Texts.{as_step, next, stop}
use Rattle.elements.specs.CloseBy.{close_by, escape_heading}
use Rattle.elements.proofs.steps.close_md.Goals as goal

pub returns : goal.returns
unfolding close_md escape_heading close_by
returns c =
    let a = c.args in
    as_step {f = λ t. and_then (escape_heading a.name t) (close_by a.opts a.name)} refl (next c.in_ok-escape_heading.was c.escape_heading.ensures c.close_by.ensures)

pub returns-in_err-escape_heading : goal.returns-in_err-escape_heading
unfolding close_md escape_heading close_by
returns-in_err-escape_heading c =
    let a = c.args in
    as_step {f = λ t. and_then (escape_heading a.name t) (close_by a.opts a.name)} refl
    (stop (close_by a.opts a.name) c.in_err-escape_heading.was c.escape_heading.ensures c.from_residual.ensures.0)
