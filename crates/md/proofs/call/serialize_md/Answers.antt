use Rattle.std.proofs.Common.{◌≡◌, sym, subst, rules}
use Rattle.std.specs.Prelude.{Err}
use Rattle.spec.specs.Call.{call}
use Rattle.input.specs.Scans.{skip_of}
use Rattle.md.specs.Answer.{Answer}
use Rattle.md.specs.Started.{Answered}
use Rattle.md.proofs.Answering.{answers_no, answers_on, promised, told_apart}
use Rattle.md.proofs.call.serialize_md.Goals as goal

pub returns-in_err-first_refusal : goal.returns-in_err-first_refusal
returns-in_err-first_refusal c =
    let a = c.args in let no = c.in_err-first_refusal.field-0.0 in
    let passed_on : Err no ≡ c.from_residual.result = search rules in
    let h = subst (λ (r : Answer). Answered (call a.sheet.now (skip_of a.skip) a.start a.include_node a.nodes.now a.text.now) r a.nodes.now a.text.now) passed_on
    (answers_no a.sheet.now (skip_of a.skip) a.start a.include_node a.nodes.now a.text.now no c.in_err-first_refusal.ensures) in
    record {
      promise = promised _ _ _ _ _ _ h;
      told = told_apart _ _ _ _ _ _ h;
    }

pub returns : goal.returns
returns c =
    let a = c.args in
    let h = answers_on a.sheet.now (skip_of a.skip) a.start a.include_node a.nodes.now a.text.now (sym c.in_ok-first_refusal.ensures) c.write_sheet.ensures in
    record {
      promise = promised _ _ _ _ _ _ h;
      told = told_apart _ _ _ _ _ _ h;
    }
