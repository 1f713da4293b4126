use Rattle.std.proofs.Common.{drop}
use Rattle.spec.specs.Out.{push}
use Rattle.spec.specs.Md.Elements.Code.{filter}
use Rattle.marks.specs.Kept.{kept_byte}
use Rattle.text.proofs.Texts.{Owes}
use Rattle.marks.proofs.code.push_filtered.Given as goal

abbrev pub invariant-loop-b : goal.invariant-loop-b
invariant-loop-b l = Owes l.fn.text l.text (push (filter kept_byte (drop l.b-index l.s))) (push (filter kept_byte l.s))
