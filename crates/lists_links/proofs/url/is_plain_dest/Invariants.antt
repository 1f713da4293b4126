use mathlib.Core.Path.{◌≡◌}
use mathlib.Core.Bool.{◌&&◌}
use lib.ListN.{drop}
use Rattle.spec.specs.Bytes.{every}
use Rattle.lists_links.specs.Url.{itself}
use Rattle.lists_links.proofs.url.is_plain_dest.Given as goal

abbrev pub invariant-loop-b : goal.invariant-loop-b
invariant-loop-b l = every itself l.dest ≡ (l.all && every itself (drop l.b-index l.dest))
