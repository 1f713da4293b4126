use Rattle.std.proofs.Common.{◌≡◌, ◌||◌, drop}
use Rattle.spec.specs.Bytes.{isin}
use Rattle.text.proofs.buffer.contains_byte.Given as goal

abbrev pub invariant-loop-x : goal.invariant-loop-x
invariant-loop-x l = isin l.b l.s ≡ (l.found || isin l.b (drop l.x-index l.s))
