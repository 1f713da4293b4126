use Rattle.std.proofs.Common.{rules}
use Rattle.spec.specs.Questions.{utf8_body, question4}
use Rattle.input.proofs.Splitting.{every_from_all}
use Rattle.input.proofs.questions.holds_utf8.Goals as goal

pub returns : goal.returns
unfolding utf8_body question4
returns c = every_from_all utf8_body c.args.s.now c.all.new.self c.all.ensures.ran c.«new».ensures (λ x b k h. search rules)
