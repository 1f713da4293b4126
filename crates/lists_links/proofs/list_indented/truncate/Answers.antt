use mathlib.Core.Path.{sym, ◌∙◌}
use lib.Seq.{take-length}
use Rattle.lists_links.proofs.Boundary.{truncate_all, truncated}
use native.Mathlib.Omega.{arith}
use Rattle.lists_links.proofs.list_indented.truncate.Goals as goal

pub returns-then-t-n : goal.returns-then-t-n
returns-then-t-n c =
    record { within = omega arith; is = take-length c.args.t.now ∙ sym (truncate_all c.args.t.now c.args.n c.if-t-n.true) }

pub returns : goal.returns
returns c = truncated c.args.t.now c.args.n c.if-t-n.false c.boundary.ensures
