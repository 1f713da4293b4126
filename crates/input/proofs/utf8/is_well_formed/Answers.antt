use Rattle.std.proofs.Common.{sym, ◌∙◌, ap}
use Rattle.input.specs.Lead.{after}
use Rattle.input.proofs.Sequences.{at_end, none_due}
use Rattle.input.proofs.utf8.is_well_formed.Goals as goal

pub returns-in-Some : goal.returns-in-Some
returns-in-Some c = sym (at_end c.args.s.now c.due_at_end.result c.due_at_end.ensures ∙ ap (λ r. after r _) c.in-Some.is ∙ none_due c.in-Some.due)

pub returns-in-None : goal.returns-in-None
returns-in-None c = sym (at_end c.args.s.now c.due_at_end.result c.due_at_end.ensures ∙ ap (λ r. after r _) c.in-None.is)
