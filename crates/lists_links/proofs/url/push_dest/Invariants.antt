use lib.ListN.{length}
use Rattle.spec.specs.Out.{push}
use Rattle.text.proofs.Texts.{Owes}
use Rattle.lists_links.proofs.Linking.{shown}
use Rattle.lists_links.proofs.url.push_dest.Given as goal

abbrev pub invariant-loop-rest : goal.invariant-loop-rest
invariant-loop-rest l = Owes l.fn.text l.text (push (shown l.wrap l.rest)) (push (shown l.wrap l.dest))

abbrev pub decreases-loop-rest : goal.decreases-loop-rest
decreases-loop-rest l = length l.rest
