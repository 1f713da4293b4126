use Rattle.marks.proofs.Leaves.{runs_tick, runs_not_tick}
use Rattle.marks.proofs.code.next_runs.Goals as goal

pub returns-then-b-eq96 : goal.returns-then-b-eq96
returns-then-b-eq96 c = runs_tick c.args.runs c.args.b c.if-b-eq96.true

pub returns-else-b-eq96 : goal.returns-else-b-eq96
returns-else-b-eq96 c = runs_not_tick c.args.runs _ c.args.b c.max.ensures c.if-b-eq96.false
