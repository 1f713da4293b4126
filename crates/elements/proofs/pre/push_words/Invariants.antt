use mathlib.Core.Bool.{false}
use Rattle.nodes.proofs.Appending.{Appends}
use Rattle.elements.proofs.Joining.{words_in}
use Rattle.elements.proofs.pre.push_words.Given as goal

abbrev pub invariant-loop-i : goal.invariant-loop-i
invariant-loop-i l = Appends words_in l.tree.sheet.now l.tree.nodes.now l.from l.to (false, false) l.initial.text l.text l.i (l.state.some, l.state.gap)
