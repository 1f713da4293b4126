use Rattle.std.proofs.Common.{◌≡◌, sym, ◌∙◌, ap, arith, rules}
use Rattle.std.specs.Prelude.{None}
use Rattle.input.specs.Lead.{after}
use Rattle.input.proofs.Sequences.{wrong_byte, right_byte, ascii_byte}
use Rattle.input.proofs.utf8.due_behind.Goals as goal

pub returns-in_err-due : goal.returns-in_err-due
returns-in_err-due c rest =
    let l = c.loop-b in let part = c.args.part.now in
    let none : None ≡ c.from_residual.result = search rules in
    c.loop-b.invariant rest
    ∙ wrong_byte l.due part l.b-index rest (omega arith) (omega (arith, (c.type_inv.part l.b-index).fits)) (sym c.next_byte.ensures ∙ c.in_err-due.was)
    ∙ ap (λ r. after r rest) none

pub loop-b-preserved-then-b-lt128 : goal.loop-b-preserved-then-b-lt128
loop-b-preserved-then-b-lt128 c rest =
    let l = c.loop-b in
    l.invariant rest ∙ ascii_byte l.due c.args.part.now l.b-index rest (omega arith) (search rules)

pub loop-b-preserved : goal.loop-b-preserved
loop-b-preserved c rest =
    let l = c.loop-b in
    l.invariant rest
    ∙ right_byte l.due c.args.part.now l.b-index rest (omega arith) c.in_ok-due.due (omega (arith, (c.type_inv.part l.b-index).fits)) (sym c.next_byte.ensures ∙ c.in_ok-due.was)
