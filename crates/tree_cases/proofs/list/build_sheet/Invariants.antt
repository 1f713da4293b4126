use Rattle.std.proofs.Common.{◌≤◌, length}
use Rattle.tree_cases.proofs.list.build_sheet.Given as goal

abbrev pub invariant-loop : goal.invariant-loop
invariant-loop l = record { in_input : length l.rest ≤ length l.input; in_sheet : l.len ≤ length l.sheet }
