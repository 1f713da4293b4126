use mathlib.Core.Path.{sym}
use Rattle.input.proofs.ByTag.{of_name, of_value, of_rest}
use Rattle.input.proofs.sound.is_ruled_other.Goals as goal

pub returns-then-tag-eq-NAME : goal.returns-then-tag-eq-NAME
returns-then-tag-eq-NAME c depth body e =
    let a = c.args in
    rw (c.if-tag-eq-NAME.true, of_name a.before depth body, e)

pub returns-then-tag-eq-VALUE : goal.returns-then-tag-eq-VALUE
returns-then-tag-eq-VALUE c depth body e =
    let a = c.args in
    rw c.if-tag-eq-VALUE.true (sym (of_value a.before depth body))

pub returns : goal.returns
returns c depth body e =
    let a = c.args in let r = c.requires in
    of_rest a.before depth a.tag body r.0 c.if-tag-eq-NAME.false c.if-tag-eq-VALUE.false r.1 r.2
