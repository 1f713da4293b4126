use Rattle.std.proofs.Common.{rules}
use Rattle.spec.specs.Questions.{right_length, keep_rules, still_open}
use Rattle.input.specs.Scans.{scan_of}
use Rattle.input.proofs.Rules.{null_length}
use Rattle.input.proofs.Splitting.{few_fields}
use Rattle.input.proofs.questions.scan_rules.Goals as goal

pub loop-f-init : goal.loop-f-init
loop-f-init c = search (rules, few_fields)

pub returns-then-not-field_right : goal.returns-then-not-field_right
unfolding right_length keep_rules scan_of
returns-then-not-field_right c = let n = null_length c.in-Some.f.body.now in search (rules, null_length)

pub loop-f-preserved : goal.loop-f-preserved
unfolding right_length keep_rules still_open
loop-f-preserved c = let n = null_length c.in-Some.f.body.now in search (rules, null_length)
