use Rattle.std.proofs.Common.{rules}
use Rattle.spec.specs.Questions.{skip_name}
use Rattle.input.proofs.Splitting.{every_from_all}
use Rattle.input.proofs.questions.holds_skip_names.Goals as goal

pub returns : goal.returns
unfolding skip_name
returns c = every_from_all skip_name c.args.s.now c.all.new.self c.all.ensures.ran c.«new».ensures (λ x b k h. search rules)
