use mathlib.Core.Path.{◌≡◌}
use lib.ListN.{drop}
use Rattle.nodes.specs.Begun.{white_state}
use Rattle.nodes.proofs.white_space.white_state.Given as goal

abbrev pub invariant-loop-b : goal.invariant-loop-b
invariant-loop-b l = white_state l.fn.from l.s ≡ white_state l.state (drop l.b-index l.s)
