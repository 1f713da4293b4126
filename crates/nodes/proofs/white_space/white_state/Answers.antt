use Prim.Native.Nat.{◌+◌}
use mathlib.Core.Bool.{true≢false}
use mathlib.Core.Path.{sym, ap, ◌∙◌}
use lib.ListN.{drop}
use Rattle.nodes.specs.Begun.{white_state}
use Rattle.nodes.specs.declared.white_space.Begun.{Begun}
use Rattle.nodes.proofs.Whites.{state_on, state_end, state_other}
use Rattle.nodes.proofs.white_space.white_state.Goals.{in-Other, in_default}
use Rattle.nodes.proofs.white_space.white_state.Goals as goal

pub loop-b-preserved : goal.loop-b-preserved
loop-b-preserved c =
    let l = c.loop-b in
    l.invariant ∙ (state_on l.state c.args.s.now l.b-index c.loop-b-test.true ∙ sym (ap (λ (x : Begun). white_state x (drop (l.b-index + 1) c.args.s.now)) c.next_white-state.ensures))

pub returns-then-matches : goal.returns-then-matches
returns-then-matches c =
    let l = c.loop-b in
    elim c.match-matches.branch [
      | in-Other w ↦ sym (l.invariant ∙ state_other l.state _ w.in-Other.is)
      | in_default w ↦ absurd (true≢false (sym c.if-matches.true ∙ w.matches-is))
    ]

pub returns-after-loop-b : goal.returns-after-loop-b
returns-after-loop-b c =
    let l = c.loop-b in
    sym (l.invariant ∙ state_end l.state c.args.s.now l.b-index c.loop-b-test.false)
