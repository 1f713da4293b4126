use Rattle.std.proofs.Common.{◌≡◌, ◌&&◌, drop}
use Rattle.spec.specs.Bytes.{every}
use Rattle.input.specs.Lead.{is_ascii}
use Rattle.input.proofs.utf8.is_ascii.Given as goal

abbrev pub invariant-loop-b : goal.invariant-loop-b
invariant-loop-b l = every is_ascii l.s ≡ (l.all && every is_ascii (drop l.b-index l.s))
