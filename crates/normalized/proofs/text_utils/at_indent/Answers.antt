use mathlib.Core.Path.{sym, ◌∙◌}
use Rattle.normalized.proofs.Markers.{indent_none, indent_some}
use Rattle.normalized.proofs.text_utils.at_indent.Goals as goal

pub returns-then-n-eq0 : goal.returns-then-n-eq0
returns-then-n-eq0 c =
    sym (indent_none c.args.text.now _ c.trim_end_matches-n.ensures c.if-n-eq0.true)

pub returns : goal.returns
returns c =
    c.ends_with_byte.ensures ∙ indent_some c.args.text.now _ c.trim_end_matches-n.ensures c.if-n-eq0.false
