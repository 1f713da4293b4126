use mathlib.Core.Path.{sym, ◌∙◌}
use Rattle.normalized.proofs.Markers.{digits_none, digits_many, digits_some}
use native.Mathlib.Omega.{arith}
use Rattle.normalized.proofs.text_utils.ends_with_marker_digits.Goals as goal

pub returns-then-d-lt1 : goal.returns-then-d-lt1
returns-then-d-lt1 c =
    sym (digits_none c.args.text.now _ c.trim_end_matches-n.ensures c.if-d-lt1.true)

pub returns-then-d-gt9 : goal.returns-then-d-gt9
returns-then-d-gt9 c =
    sym (digits_many c.args.text.now _ c.trim_end_matches-n.ensures c.if-d-gt9.true)

pub returns : goal.returns
returns c =
    c.at_indent.ensures ∙ digits_some c.args.text.now _ c.trim_end_matches-n.ensures _ (λ h. omega arith) (λ h. omega arith) c.before_marker-m.ensures
