use Rattle.input.proofs.Sequences.{all_turn, all_end}
use Rattle.lists_links.specs.Url.{itself}
use native.Mathlib.Omega.{arith}
use Rattle.lists_links.proofs.url.is_plain_dest.Goals as goal

pub loop-b-preserved : goal.loop-b-preserved
loop-b-preserved c =
    let l = c.loop-b in
    rw c.is_itself-all.ensures (all_turn itself c.args.dest.now l.all l.b-index l.invariant (omega arith))

pub returns : goal.returns
returns c =
    let l = c.loop-b in
    all_end itself c.args.dest.now l.all l.b-index l.invariant (omega arith)
