use Rattle.std.proofs.Common.{refl}
use Rattle.spec.specs.Md.Elements.Emphasis.{drop_end}
use Rattle.text.proofs.Reading.{ends_is, ends_not, ends_none}
use Rattle.marks.proofs.table.ends_with_bare_pipe.Goals as goal

pub returns-in-len1-up : goal.returns-in-len1-up
unfolding drop_end
returns-in-len1-up c =
    rw (ends_is c.args.s.now 124 c.in-len1-up.len_at_least c.if-last-eq124.true, c.ends_with_byte.ensures) refl

pub returns-in_default : goal.returns-in_default
returns-in_default c = rw (ends_none c.args.s.now 124 c.in_default.len_below) refl

pub returns-in_default-2 : goal.returns-in_default-2
returns-in_default-2 c = rw (ends_not c.args.s.now 124 c.if-last-eq124.false) refl
