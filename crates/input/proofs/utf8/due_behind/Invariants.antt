use Rattle.std.proofs.Common.{◌≡◌, ◌++◌, List, ℕ, drop}
use Rattle.spec.specs.Utf8.{well_formed}
use Rattle.input.specs.Lead.{due}
use Rattle.input.proofs.utf8.due_behind.Given as goal

abbrev pub invariant-loop-b : goal.invariant-loop-b
invariant-loop-b l = (rest : List ℕ) → well_formed (due l.fn.before) (l.part ++ rest) ≡ well_formed (due l.due) (drop l.b-index l.part ++ rest)
