use Rattle.std.proofs.Common.{sym, ◌∙◌}
use borrow.Author.Tests.{lt-ltb, le-ltb}
use Rattle.spec.specs.Md.Elements.List.{clamped}
use Rattle.text.proofs.Reading.{rest_part}
use Rattle.lists_links.proofs.list_number.clamped.Goals as goal

pub returns-then-significant-gt-MOST_DIGITS : goal.returns-then-significant-gt-MOST_DIGITS
unfolding clamped
returns-then-significant-gt-MOST_DIGITS c =
    let e = rest_part c.trim_start_matches.result c.args.digits.now ∙ c.trim_start_matches.ensures.is in
    rw (sym e, lt-ltb 9 _ c.if-significant-gt-MOST_DIGITS.true)

pub returns : goal.returns
unfolding clamped
returns c =
    let e = rest_part c.trim_start_matches.result c.args.digits.now ∙ c.trim_start_matches.ensures.is in
    rw (sym e, le-ltb 9 _ c.if-significant-gt-MOST_DIGITS.false) c.value_of.ensures
