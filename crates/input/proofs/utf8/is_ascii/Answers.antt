use Rattle.std.proofs.Common.{arith}
use Rattle.input.specs.Lead.{is_ascii}
use Rattle.input.proofs.Sequences.{all_turn, all_end}
use Rattle.input.proofs.utf8.is_ascii.Goals as goal

pub loop-b-preserved : goal.loop-b-preserved
loop-b-preserved c = let l = c.loop-b in all_turn is_ascii c.args.s.now l.all l.b-index l.invariant (omega arith)

pub returns : goal.returns
returns c = let l = c.loop-b in all_end is_ascii c.args.s.now l.all l.b-index l.invariant (omega arith)
