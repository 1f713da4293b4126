use mathlib.Core.Path.{sym}
use Rattle.std.proofs.Common.{rules}
use Rattle.lists_links.proofs.Boundary.{boundary_behind, bounded_at, bounded_none}
use native.Mathlib.Omega.{arith}
use Rattle.lists_links.proofs.list_indented.boundary.Goals as goal

pub returns-then-t-n : goal.returns-then-t-n
returns-then-t-n c = (sym (boundary_behind c.args.t.now c.args.n c.if-t-n.true), omega arith)

pub returns-in-Some : goal.returns-in-Some
returns-in-Some c = bounded_at c.args.t.now c.args.n c.if-t-n.false c.in-Some.k (search rules) (search rules) (search rules)

pub returns-in-None : goal.returns-in-None
returns-in-None c = bounded_none c.args.t.now c.args.n c.if-t-n.false (search rules)
