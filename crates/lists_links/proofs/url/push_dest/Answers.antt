use Rattle.std.proofs.Common.{rules, ℕ, List, drop, sym, ap, ◌∙◌}
use Rattle.spec.specs.Out.{push}
use Rattle.spec.specs.Md.TextUtils.{html_escape}
use Rattle.text.specs.Texts.{bytes}
use Rattle.text.proofs.Reading.{rest_part}
use Rattle.text.proofs.Texts.{as_step, pushes_nothing, owes_step, owes_stop, owes_last}
use Rattle.lists_links.proofs.Linking.{shown, shown_byte, shown_space, shown_end, space_long, kept_pieces}
use Rattle.lists_links.proofs.url.push_dest.Goals as goal

pub returns-then-is_kept_dest : goal.returns-then-is_kept_dest
returns-then-is_kept_dest c =
    let a = c.args in
    let e = sym c.is_kept_dest.ensures ∙ c.if-is_kept_dest.true in
    as_step (ap (λ (x : List ℕ). push x (bytes a.text.now)) (kept_pieces a.wrap a.dest.now e)) c.push_all.ensures

pub slice_bounds-rest-count : goal.slice_bounds-rest-count
slice_bounds-rest-count c = space_long c.loop-rest.rest.now (sym c.starts_with.ensures ∙ c.if-starts_with.true)

pub slice_bounds-rest-start : goal.slice_bounds-rest-start
slice_bounds-rest-start c =
    let h = space_long c.loop-rest.rest.now (sym c.starts_with.ensures ∙ c.if-starts_with.true) in
    search (rules, h)

pub loop-rest-preserved-then-starts_with : goal.loop-rest-preserved-then-starts_with
loop-rest-preserved-then-starts_with c =
    let l = c.loop-rest in let r = l.rest.now in let w = c.args.wrap in
    rw (rest_part 2 r) (owes_step l.invariant (push (shown w (drop 2 r))) (shown_space w r (bytes l.text) (sym c.starts_with.ensures ∙ c.if-starts_with.true))
    c.in_ok-push_all.was c.push_all-then-starts_with.ensures)

pub returns-in_err-push_all : goal.returns-in_err-push_all
unfolding html_escape
returns-in_err-push_all c =
    let l = c.loop-rest in let r = l.rest.now in let w = c.args.wrap in
    owes_stop l.invariant (push (shown w (drop 2 r))) (shown_space w r (bytes l.text) (sym c.starts_with.ensures ∙ c.if-starts_with.true))
    c.in_err-push_all.was c.push_all-then-starts_with.ensures c.from_residual.ensures.0

pub loop-rest-preserved : goal.loop-rest-preserved
loop-rest-preserved c =
    let l = c.loop-rest in let r = l.rest.now in let w = c.args.wrap in
    rw (rest_part 1 r) (owes_step l.invariant (push (shown w (drop 1 r))) (shown_byte w r (bytes l.text) c.in-len1-up.len_at_least (sym c.starts_with.ensures ∙ c.if-starts_with.false))
    c.in_ok-push_piece.was c.push_piece.ensures)

pub returns-in_err-push_piece : goal.returns-in_err-push_piece
unfolding html_escape
returns-in_err-push_piece c =
    let l = c.loop-rest in let r = l.rest.now in let w = c.args.wrap in
    owes_stop l.invariant (push (shown w (drop 1 r))) (shown_byte w r (bytes l.text) c.in-len1-up.len_at_least (sym c.starts_with.ensures ∙ c.if-starts_with.false))
    c.in_err-push_piece.was c.push_piece.ensures c.from_residual-in_err-push_piece.ensures.0

pub returns : goal.returns
unfolding html_escape
returns c =
    let l = c.loop-rest in
    owes_last l.invariant (shown_end c.args.wrap l.rest.now (bytes l.text) c.in_default.len_below) (pushes_nothing l.text)
