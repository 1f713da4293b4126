use Rattle.std.proofs.Common.{◌≡◌, drop}
use Rattle.spec.specs.Out.{push}
use Rattle.text.proofs.Texts.{Owes}
use Rattle.elements.specs.JoinedWords.{words_on, some_after, gap_after}
use Rattle.elements.proofs.pre.join_words.Given as goal

abbrev pub invariant-loop-b : goal.invariant-loop-b
invariant-loop-b l = record {
  owes : Owes l.initial.text l.text (push (words_on l.some l.gap (drop l.b-index l.s))) (push (words_on l.fn.from.some l.fn.from.gap l.s));
  some : some_after l.fn.from.some l.s ≡ some_after l.some (drop l.b-index l.s);
  gap : gap_after l.fn.from.gap l.s ≡ gap_after l.gap (drop l.b-index l.s);
}
