use Prim.Native.Nat.{◌+◌, ◌*◌, ◌≤◌}
use mathlib.Core.Path.{◌≡◌}
use lib.ListN.{length, drop}
use Rattle.spec.specs.Bytes.{value_from}
use Rattle.lists_links.proofs.ListNumbers.{ten}
use Rattle.lists_links.proofs.list_number.value_of.Given as goal

abbrev pub invariant-loop-b : goal.invariant-loop-b
invariant-loop-b l = (l.b-index ≤ length l.digits) × (value_from 0 l.digits ≡ value_from l.n (drop l.b-index l.digits)) × (l.n + 23 ≤ 23 * ten l.b-index)
