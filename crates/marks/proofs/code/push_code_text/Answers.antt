use Rattle.std.proofs.Common.{refl}
use Rattle.spec.specs.Md.Elements.Code.{code_span}
use Rattle.text.specs.Texts.{bytes}
use Rattle.text.proofs.Parts.{lifted_to}
use Rattle.text.proofs.Texts.{as_step, kept}
use Rattle.marks.proofs.Spans.{no_code, some_code}
use Rattle.marks.proofs.code.push_code_text.Goals as goal

pub returns-then-n-eq0 : goal.returns-then-n-eq0
returns-then-n-eq0 c =
    let a = c.args in let t = a.text.now in as_step (no_code a.in_being t.room.now a.from a.n (bytes t) c.if-n-eq0.true) (kept t)

pub returns : goal.returns
returns c =
    let a = c.args in let t = a.text.now in
    as_step (some_code a.in_being t.room.now a.from a.n (bytes t) c.requires.1 c.if-n-eq0.false) (lifted_to c.requires.0 c.requires.1 refl c.lift.ensures refl refl (code_span a.in_being) c.push_code_span.ensures)
