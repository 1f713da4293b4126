use Rattle.std.proofs.Common.{◌-◌}
use Rattle.elements.proofs.Languages.{Up}
use Rattle.elements.proofs.code_language.nearest_language.Given as goal

abbrev pub invariant-loop : goal.invariant-loop
invariant-loop l = Up l.tree.sheet.now l.tree.nodes.now l.i l.at (4 - l.counter)
