use mathlib.Core.Path.{sym, ◌∙◌}
use lib.Seq.{take-length}
use Rattle.text.proofs.Reading.{ends_some}
use Rattle.normalized.proofs.Markers.{no_blank, marker_before, marker_none}
use native.Mathlib.Omega.{arith}
use Rattle.normalized.proofs.text_utils.before_marker.Goals as goal

pub returns-then-not-ends_with_byte : goal.returns-then-not-ends_with_byte
returns-then-not-ends_with_byte c =
    let s = c.args.stem.now in
    record { within = omega arith; is = take-length s ∙ sym (no_blank s (sym c.ends_with_byte.ensures ∙ c.if-not-ends_with_byte.true)) }

pub overflow_sub-n : goal.overflow_sub-n
overflow_sub-n c =
    omega (arith, ends_some c.args.stem.now 32 (sym c.ends_with_byte.ensures ∙ c.if-not-ends_with_byte.false))

pub returns-then-is_marker : goal.returns-then-is_marker
returns-then-is_marker c =
    let s = c.args.stem.now in
    marker_before s _ (sym c.ends_with_byte.ensures ∙ c.if-not-ends_with_byte.false) c.trim_end_matches-b.ensures _ c.is_marker.ensures c.if-is_marker.true

pub returns-else-is_marker : goal.returns-else-is_marker
returns-else-is_marker c =
    let s = c.args.stem.now in
    marker_none s _ (sym c.ends_with_byte.ensures ∙ c.if-not-ends_with_byte.false) c.trim_end_matches-b.ensures _ c.is_marker.ensures c.if-is_marker.false
