use mathlib.Core.Path.{◌≡◌}
use lib.ListN.{drop}
use Rattle.spec.specs.Bytes.{white, parts}
use Rattle.spec.specs.Md.TextUtils.{is_ordered_list_marker}
use Rattle.normalized.proofs.Starting.{marker_tail}
use Rattle.normalized.proofs.line_start.begins_marker.Given as goal

abbrev pub invariant-loop-i : goal.invariant-loop-i
invariant-loop-i l = is_ordered_list_marker (parts white l.s).0 ≡ marker_tail (drop l.i l.s)
