use mathlib.Core.Path.{◌∙◌}
use native.Mathlib.Omega.{arith}
use mir.Facts.{to_z-of_z}
use mir.Syntax.{w64}
use mir.Val.{to_z, of_z}
use Rattle.spec.specs.Promise.{Promise}
use Rattle.spec.specs.Questions.{SkipList}
use Rattle.md.specs.Answer.{flag, coded_number, coded_length}
use Rattle.md.proofs.Answering.{promised_length, promised_coded, told_by_flag}
use Rattle.md.proofs.call.buzhnael_serialize_md.Goals as goal

pub code-requires : goal.code-requires
code-requires c =
    omega (arith, promised_length c.serialize_md-answer.ensures.promise, c.serialize_md-answer.auto.text, c.well_formed)

pub returns : goal.returns
returns c =
    let a = c.args in let answer = c.serialize_md-answer in
    let code-is = to_z-of_z {w = w64} {z = c.code.result} (record { sfits = c.code.type_inv }) ∙ c.code.ensures in
    let signed = to_z w64 (of_z w64 c.code.result) in
    told_by_flag (λ (s : SkipList). Promise a.sheet.now s a.start (flag a.include_node) a.nodes.now a.text.now (coded_number signed) (coded_length signed) answer.new.nodes answer.new.text)
    (flag a.own) a.run c.then_some-skip.ensures (promised_coded answer.result code-is answer.ensures.promise)
