use Rattle.std.proofs.Common.{rules, subst₂, ◌≡◌, Bool, true}
use mathlib.Core.Bool.{◌||◌}
use Rattle.lists_links.proofs.ListNumbers.{sign_long}
use Rattle.lists_links.proofs.list_number.without_sign.Goals as goal

pub slice_bounds-result-count : goal.slice_bounds-result-count
slice_bounds-result-count c =
    sign_long c.args.value.now (subst₂ (λ (x y : Bool). x || y ≡ true) c.starts_with_byte.ensures c.starts_with_byte-2.ensures c.if-starts_with_byte.true)

pub slice_bounds-result-start : goal.slice_bounds-result-start
slice_bounds-result-start c =
    let h = sign_long c.args.value.now (subst₂ (λ (x y : Bool). x || y ≡ true) c.starts_with_byte.ensures c.starts_with_byte-2.ensures c.if-starts_with_byte.true) in
    search (rules, h)
