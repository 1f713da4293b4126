use Rattle.std.proofs.Common.{◌≡◌, false, ◌-◌, List, ℕ, cond, [], ◌++◌, ap, sym, ◌∙◌, subst, length, take, drop, arith, length-drop}
use lib.Seq.{length-take-le}
use Rattle.spec.specs.Bytes.{ascii, null, trim_end}
use Rattle.spec.specs.Md.Elements.Emphasis.{push_marked}
use Rattle.marks.specs.Marked.{marked_with}
use Rattle.text.specs.Texts.{bytes}
use mir.Val.{bool_byte}
use Rattle.text.proofs.Texts.{as_step}
use Rattle.marks.proofs.Marking.{bit, one_small, lead_fits, begun_long, body_at, trail_fits, body_some, marked_parts}
use Rattle.marks.proofs.emphasis.push_marked.Goals as goal

pub slice_bounds-begun-count : goal.slice_bounds-begun-count
slice_bounds-begun-count c = lead_fits (take c.args.n c.behind.result.now) c.starts_with_byte-lead.result c.starts_with_byte-lead.ensures

pub slice_bounds-begun-start : goal.slice_bounds-begun-start
slice_bounds-begun-start c = omega (arith, lead_fits (take c.args.n c.behind.result.now) c.starts_with_byte-lead.result c.starts_with_byte-lead.ensures)

pub overflow_sub-size : goal.overflow_sub-size
overflow_sub-size c = trail_fits (take c.args.n c.behind.result.now) c.starts_with_byte-lead.result c.starts_with_byte-lead.ensures c.ends_with_byte-trail.result c.ends_with_byte-trail.ensures

pub push_closed-requires : goal.push_closed-requires
push_closed-requires c =
    let a = c.args in let t = a.text.now in let lead = c.starts_with_byte-lead.result in
    let content = take a.n c.behind.result.now in let e = c.starts_with_byte-lead.ensures in
    let trail = c.ends_with_byte-trail.result in let q = c.ends_with_byte-trail.ensures in
    let size : length content ≡ a.n = length-take-le a.n c.behind.result.now (omega (arith, ap length c.behind.ensures, length-drop t.len t.room.now, c.requires.0)) in
    let some = subst (λ (s : List ℕ). null (trim_end (take a.n s)) ≡ false) (sym c.behind.ensures) c.requires.1 in
    let l = lead_fits content lead e in let b = begun_long content lead e in let r = trail_fits content lead e trail q in
    ((omega arith, omega (arith, bit lead, one_small lead)), (omega (arith, l, b, r, size, c.requires.0), body_some content lead e trail q some))

pub returns : goal.returns
returns c =
    let a = c.args in let t = a.text.now in let lead = c.starts_with_byte-lead.result in
    let content = take a.n c.behind.result.now in let e = c.starts_with_byte-lead.ensures in
    let trail = c.ends_with_byte-trail.result in let q = c.ends_with_byte-trail.ensures in
    let size : length content ≡ a.n = length-take-le a.n c.behind.result.now (omega (arith, ap length c.behind.ensures, length-drop t.len t.room.now, c.requires.0)) in
    let begun = take (length content - bool_byte lead) (drop (bool_byte lead) content) in
    let k = length begun - bool_byte trail in
    let body = body_at content lead e t.room.now t.len a.n k (ap (take a.n) c.behind.ensures) (sym size) (omega arith) in
    as_step (ap (λ (s : List ℕ). push_marked a.marker.now (take a.n s) (bytes t)) (sym c.behind.ensures) ∙ marked_parts content lead e trail q a.marker.now (bytes t)
    ∙ ap (λ (x : List ℕ). marked_with a.marker.now lead (x ++ (a.marker.now ++ cond trail (ascii " ") [])) (bytes t)) body) c.push_closed.ensures
