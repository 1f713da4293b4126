use Rattle.std.proofs.Common.{sym, ◌∙◌, []}
use Rattle.spec.specs.Md.Elements.Code.{max_backtick_run}
use Rattle.marks.proofs.Leaves.{runs_all}
use Rattle.marks.proofs.code.max_backtick_run.Goals as goal

pub returns : goal.returns
unfolding max_backtick_run
returns c =
    let l = c.loop-block in c.max.ensures ∙ sym (runs_all c.args.s.now l.rest.now (l.invariant.goes []) c.runs_behind-runs.ensures)
