use Prim.Native.Nat.{ℕ, ◌≤◌}
use lib.IntN.{pos}
use mathlib.Core.Path.{◌≡◌}
use lib.ListN.{drop}
use Rattle.spec.specs.Md.TextUtils.{needs_wrap}
use Rattle.lists_links.proofs.url.needs_wrap.Given as goal

abbrev pub invariant-loop-b : goal.invariant-loop-b
invariant-loop-b l = (n : ℕ) × ((l.balance ≡ pos n) × (n ≤ l.b-index) × (needs_wrap 0 l.dest ≡ needs_wrap n (drop l.b-index l.dest)))
