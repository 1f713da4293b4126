use Rattle.std.proofs.Common.{◌≡◌, ◌≤◌, ◌+◌, length}
use Rattle.spec.specs.Fields.{fields}
use Rattle.spec.specs.Questions.{keep_rules, still_open}
use Rattle.input.specs.Fields.{fields_left}
use Rattle.input.proofs.questions.scan_rules.Given as goal

abbrev pub invariant-loop-f : goal.invariant-loop-f
invariant-loop-f l =
    (l.depth + length (fields_left l.f-iterator) ≤ length l.s)
    × (keep_rules 0 0 (fields l.s) ≡ keep_rules l.before l.depth (fields_left l.f-iterator))
    × (still_open 0 (fields l.s) ≡ still_open l.depth (fields_left l.f-iterator))
