use mathlib.Core.Path.{sym, ◌∙◌}
use Rattle.normalized.proofs.Markers.{marker_short, marker_other, marker_digits}
use native.Mathlib.Omega.{arith}
use Rattle.normalized.proofs.text_utils.is_ordered_list_marker.Goals as goal

pub returns-then-chunk-lt2 : goal.returns-then-chunk-lt2
returns-then-chunk-lt2 c =
    sym (marker_short c.args.chunk.now c.if-chunk-lt2.true)

pub returns-then-not-ends_with_either : goal.returns-then-not-ends_with_either
returns-then-not-ends_with_either c =
    sym (marker_other c.args.chunk.now (sym c.ends_with_either.ensures ∙ c.if-not-ends_with_either.true))

pub returns : goal.returns
returns c =
    c.all_in.ensures ∙ marker_digits c.args.chunk.now (omega arith) (sym c.ends_with_either.ensures ∙ c.if-not-ends_with_either.false)
