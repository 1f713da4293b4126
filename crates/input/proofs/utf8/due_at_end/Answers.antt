use Rattle.std.proofs.Common.{◌≡◌, ◌++◌, ◌∙◌, ◌≤◌, [], length, ap, rules}
use Rattle.std.proofs.Math.ListN.{drop_of_length-le}
use Rattle.std.specs.Prelude.{None}
use Rattle.spec.specs.Utf8.{well_formed}
use Rattle.input.specs.Lead.{due, after}
use Rattle.input.proofs.Sequences.{block_turn}
use Rattle.input.proofs.utf8.due_at_end.Goals as goal

pub returns-in_err-due : goal.returns-in_err-due
returns-in_err-due c rest =
    let l = c.loop-rest in
    let none : None ≡ c.from_residual.result = search rules in
    let split : l.rest.now ≡ c.split_at.result.0.now ++ c.split_at.result.1.now = search rules in
    l.invariant rest
    ∙ block_turn l.due c.due_behind_block.result l.rest.now c.split_at.result.0.now c.split_at.result.1.now rest split c.due_behind_block.ensures
    ∙ ap (λ r. after r (c.split_at.result.1.now ++ rest)) c.in_err-due.was ∙ ap (λ r. after r rest) none

pub loop-rest-preserved : goal.loop-rest-preserved
loop-rest-preserved c rest =
    let l = c.loop-rest in
    let split : l.rest.now ≡ c.split_at.result.0.now ++ c.split_at.result.1.now = search rules in
    l.invariant rest
    ∙ block_turn l.due c.due_behind_block.result l.rest.now c.split_at.result.0.now c.split_at.result.1.now rest split c.due_behind_block.ensures
    ∙ ap (λ r. after r (c.split_at.result.1.now ++ rest)) c.in_ok-due.was

pub returns : goal.returns
returns c rest =
    let l = c.loop-rest in
    let empty : length l.rest.now ≤ 0 = search rules in
    let none_left : l.rest.now ≡ [] = drop_of_length-le l.rest.now empty in
    l.invariant rest ∙ ap (λ s. well_formed (due l.due) (s ++ rest)) none_left
