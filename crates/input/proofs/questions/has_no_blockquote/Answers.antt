use Rattle.std.proofs.Common.{rules}
use Rattle.spec.specs.Questions.{no_blockquote, question6}
use Rattle.input.proofs.Splitting.{every_from_all}
use Rattle.input.proofs.questions.has_no_blockquote.Goals as goal

pub returns : goal.returns
unfolding no_blockquote question6
returns c = every_from_all no_blockquote c.args.s.now c.all.new.self c.all.ensures.ran c.«new».ensures (λ x b k h. search rules)
