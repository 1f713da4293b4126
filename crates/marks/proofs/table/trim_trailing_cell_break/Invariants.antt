use Rattle.std.proofs.Common.{ℕ, ◌≡◌, ◌≤◌, length, take}
use Rattle.spec.specs.Md.Elements.Table.{without_breaks}
use Rattle.marks.proofs.table.trim_trailing_cell_break.Given as goal

-- `rest` is a front of s; `left` rounds are left, enough for its bytes
abbrev pub invariant-loop-rest : goal.invariant-loop-rest
invariant-loop-rest l = record {
  within : length l.rest ≤ length l.s;
  front : take (length l.rest) l.s ≡ l.rest;
  left : ℕ;
  enough : length l.rest ≤ left;
  is : without_breaks (length l.s) l.s ≡ without_breaks left l.rest;
}

abbrev pub decreases-loop-rest : goal.decreases-loop-rest
decreases-loop-rest l = length l.rest
