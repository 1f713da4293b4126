use Rattle.std.proofs.Common.{rules}
use Rattle.input.proofs.Splitting.{same_eq}
use Rattle.tree.proofs.Naming.{among_from_any}
use Rattle.tree.proofs.names.has_name.Goals as goal

pub returns : goal.returns
returns c = among_from_any c.args.name.now c.args.run.now c.any.new.self c.any.ensures.ran c.«new».ensures (λ y b k h. search (rules, same_eq))
