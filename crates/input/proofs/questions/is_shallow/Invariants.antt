use Rattle.std.proofs.Common.{◌≡◌}
use Rattle.spec.specs.Fields.{fields}
use Rattle.spec.specs.Questions.{shallow}
use Rattle.input.specs.Fields.{fields_left}
use Rattle.input.proofs.questions.is_shallow.Given as goal

abbrev pub invariant-loop-f : goal.invariant-loop-f
invariant-loop-f l = shallow 0 (fields l.s) ≡ shallow l.depth (fields_left l.f-iterator)
