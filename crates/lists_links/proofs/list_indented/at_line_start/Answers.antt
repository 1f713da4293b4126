use mathlib.Core.Path.{sym, ap, ◌∙◌}
use mathlib.Core.Bool.{Bool, ◌&&◌}
use lib.ListN.{length}
use borrow.Author.Tests.{ne_eqb}
use Rattle.lists_links.proofs.ItemLines.{line_there, line_short, line_rest}
use Rattle.lists_links.proofs.list_indented.at_line_start.Goals as goal

pub returns-then-t-item : goal.returns-then-t-item
returns-then-t-item c = sym (line_there c.args.t.now c.args.item c.if-t-item.true)

pub returns-then-t-item-2 : goal.returns-then-t-item-2
returns-then-t-item-2 c = sym (line_short c.args.t.now c.args.item (ne_eqb (length c.args.t.now) c.args.item.start c.if-t-item.false) c.if-t-item-2.true)

pub returns : goal.returns
returns c =
    ap (λ (b : Bool). c.all_in.result && b) c.ends_with_byte.ensures
    ∙ sym (line_rest c.args.t.now c.args.item (ne_eqb (length c.args.t.now) c.args.item.start c.if-t-item.false) c.if-t-item-2.false c.all_in.result c.all_in.ensures)
