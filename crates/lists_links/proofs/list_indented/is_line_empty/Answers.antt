use mathlib.Core.Path.{sym}
use Rattle.lists_links.proofs.ItemLines.{line_none, line_first}
use Rattle.lists_links.proofs.list_indented.is_line_empty.Goals as goal

pub returns-in-empty : goal.returns-in-empty
returns-in-empty c = sym (line_none c.args.t.now c.in-empty.len_below)

pub returns-in-len1-up : goal.returns-in-len1-up
returns-in-len1-up c = sym (line_first c.args.t.now c.in-len1-up.len_at_least)
