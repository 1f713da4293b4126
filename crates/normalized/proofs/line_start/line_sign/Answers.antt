use Prim.Native.Nat.{◌-◌}
use mathlib.Core.Path.{sym, ap₂, subst, ◌∙◌}
use mathlib.Core.Bool.{Bool, ◌||◌}
use lib.ListN.{length}
use Rattle.normalized.specs.Layout.{LineSign}
use Rattle.normalized.proofs.Starting.{line_marker, line_first, line_plain}
use native.Mathlib.Omega.{arith}
use Rattle.normalized.proofs.line_start.line_sign.Goals as goal

pub returns-then-is_ordered_list_marker : goal.returns-then-is_ordered_list_marker
returns-then-is_ordered_list_marker c =
    let w = c.args.word.now in
    let m = c.is_ordered_list_marker in
    subst (λ (t : Bool). LineSign w t (length w - 1)) (sym (c.if-not-line_start.false)) (line_marker w c.requires (sym m.ensures ∙ c.if-is_ordered_list_marker.true))

pub returns-then-is_line_start_escaped-all_in : goal.returns-then-is_line_start_escaped-all_in
returns-then-is_line_start_escaped-all_in c =
    let w = c.args.word.now in
    let m = c.is_ordered_list_marker in
    subst (λ (t : Bool). LineSign w t 0) (sym (c.if-not-line_start.false))
    (line_first w c.requires (omega (arith, c.shared_slice_known-2-1.given 0)) (sym m.ensures ∙ c.if-is_ordered_list_marker.false) (sym (ap₂ (λ (x y : Bool). x || y) c.is_line_start_escaped.ensures c.all_in.ensures) ∙ c.if-is_line_start_escaped-all_in.true))

pub returns-else-is_line_start_escaped-all_in : goal.returns-else-is_line_start_escaped-all_in
returns-else-is_line_start_escaped-all_in c =
    let w = c.args.word.now in
    let m = c.is_ordered_list_marker in
    subst (λ (t : Bool). LineSign w t (length w)) (sym (c.if-not-line_start.false))
    (line_plain w (sym m.ensures ∙ c.if-is_ordered_list_marker.false) (sym (ap₂ (λ (x y : Bool). x || y) c.is_line_start_escaped.ensures c.all_in.ensures) ∙ c.if-is_line_start_escaped-all_in.false))
