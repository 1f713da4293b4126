use lib.ListN.{drop}
use Rattle.spec.specs.Out.{push}
use Rattle.spec.specs.Md.TextUtils.{each_byte, quote_escaped}
use Rattle.text.proofs.Texts.{Owes}
use Rattle.lists_links.proofs.title.push_quoted.Given as goal

abbrev pub invariant-loop-b : goal.invariant-loop-b
invariant-loop-b l = Owes l.fn.text l.text (push (each_byte quote_escaped (drop l.b-index l.title))) (push (each_byte quote_escaped l.title))
