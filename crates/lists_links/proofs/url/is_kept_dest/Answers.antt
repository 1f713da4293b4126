use Rattle.input.proofs.Sequences.{all_turn, all_end}
use Rattle.lists_links.specs.Url.{kept}
use native.Mathlib.Omega.{arith}
use Rattle.lists_links.proofs.url.is_kept_dest.Goals as goal

pub loop-b-preserved : goal.loop-b-preserved
loop-b-preserved c =
    let l = c.loop-b in
    rw c.is_kept-all.ensures (all_turn kept c.args.dest.now l.all l.b-index l.invariant (omega arith))

pub returns : goal.returns
returns c =
    let l = c.loop-b in
    all_end kept c.args.dest.now l.all l.b-index l.invariant (omega arith)
