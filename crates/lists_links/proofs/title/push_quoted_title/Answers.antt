use mathlib.Core.Path.{refl, ◌∙◌}
use mathlib.Core.List.{[]}
use lib.ListN.{length}
use borrow.Rule.Slice.PartMut.{same_len_mid}
use Rattle.spec.specs.Out.{push, beside}
use Rattle.spec.specs.Md.Ctx.{new}
use Rattle.spec.specs.Md.TextUtils.{each_byte, quote_escaped, quoted_title, push_normalized_text}
use Rattle.text.proofs.Temporary.{temp_full, temp_writes, lifted_long}
use Rattle.text.proofs.Texts.{as_done, as_over}
use Rattle.text.proofs.Writing.{done, full}
use Rattle.lists_links.proofs.title.push_quoted_title.Goals as goal

pub returns-in_err-n : goal.returns-in_err-n
unfolding quoted_title
returns-in_err-n c =
    let a = c.args.text.now in
    let o = push_normalized_text c.args.title.now new [] in
    as_over refl (same_len_mid a.len _ a.room.now _ c.write_normalized.auto.room)
    (temp_full a.room.now a.len a.fits o (λ t. beside (length o.text) (push (each_byte quote_escaped o.text) t)) (full c.in_err-n.was c.write_normalized.ensures)) c.from_residual.ensures.0

pub returns-in_err-text : goal.returns-in_err-text
unfolding quoted_title
returns-in_err-text c =
    let a = c.args.text.now in
    let o = push_normalized_text c.args.title.now new [] in
    let w = done c.in_ok-n.was c.write_normalized.ensures in
    let v = c.push_quoted_from.ensures in
    as_over refl (v.long ∙ lifted_long a.room.now a.len a.fits o w _ refl _ c.lift.ensures)
    (full c.in_err-text.was (temp_writes a.room.now a.len a.fits o w _ refl _ c.lift.ensures (each_byte quote_escaped) v)) c.from_residual-in_err-text.ensures.0

pub returns : goal.returns
unfolding quoted_title
returns c =
    let a = c.args.text.now in
    let o = push_normalized_text c.args.title.now new [] in
    let w = done c.in_ok-n.was c.write_normalized.ensures in
    as_done refl (done c.in_ok-text.was (temp_writes a.room.now a.len a.fits o w _ refl _ c.lift.ensures (each_byte quote_escaped) c.push_quoted_from.ensures))
