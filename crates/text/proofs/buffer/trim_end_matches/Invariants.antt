use Rattle.std.proofs.Common.{◌≡◌, ◌≤◌, length, take}
use Rattle.spec.specs.Bytes.{one, trim_end_matches}
use Rattle.text.proofs.buffer.trim_end_matches.Given as goal

-- `rest` is a front of s, and s is trimmed as `rest` is
abbrev pub invariant-loop-rest : goal.invariant-loop-rest
invariant-loop-rest g l = record {
  within : length l.rest ≤ length l.s;
  is : take (length l.rest) l.s ≡ l.rest;
  trims : trim_end_matches (one g.C.ByteClass.holds) l.s ≡ trim_end_matches (one g.C.ByteClass.holds) l.rest;
}

abbrev pub decreases-loop-rest : goal.decreases-loop-rest
decreases-loop-rest g l = length l.rest
