use Rattle.std.proofs.Common.{◌≡◌, ◌≤◌, length, take}
use Rattle.spec.specs.Bytes.{trim_end}
use Rattle.text.proofs.white_space.trim_end.Given as goal

-- `rest` is a front of s, and s is trimmed as `rest` is
abbrev pub invariant-loop-front : goal.invariant-loop-front
invariant-loop-front l = record {
  within : length l.rest ≤ length l.s;
  is : take (length l.rest) l.s ≡ l.rest;
  trims : trim_end l.s ≡ trim_end l.rest;
}

abbrev pub decreases-loop-front : goal.decreases-loop-front
decreases-loop-front l = length l.rest
