use mathlib.Core.Path.{◌≡◌}
use mathlib.Core.Bool.{◌&&◌}
use lib.ListN.{drop}
use Rattle.spec.specs.Bytes.{every}
use Rattle.lists_links.specs.Url.{kept}
use Rattle.lists_links.proofs.url.is_kept_dest.Given as goal

abbrev pub invariant-loop-b : goal.invariant-loop-b
invariant-loop-b l = every kept l.dest ≡ (l.all && every kept (drop l.b-index l.dest))
