use Rattle.std.proofs.Common.{Bool, ◌||◌, ap, sym, ◌∙◌}
use lib.Dec.{eqb}
use lib.Seq.{length-take-le}
use Rattle.text.specs.Texts.{bytes}
use Rattle.spec.specs.Md.TextUtils.{ends_with_white}
use Rattle.text.proofs.Spaces.{space_kept, space_push}
use Rattle.text.proofs.Texts.{as_step, kept}
use Rattle.normalized.proofs.text_utils.push_block_space.Goals as goal

pub returns-then-text-ends_with_white : goal.returns-then-text-ends_with_white
returns-then-text-ends_with_white c =
    let a = c.args.text.now in
    let e = ap (λ (w : Bool). eqb a.len 0 || w) (ap ends_with_white (sym c.bytes.ensures) ∙ sym c.ends_with_white.ensures) ∙ c.if-text-ends_with_white.true in
    as_step (space_kept (bytes a) a.len (sym (length-take-le a.len a.room.now a.fits)) e) (kept a)

pub returns : goal.returns
returns c =
    let a = c.args.text.now in
    let e = ap (λ (w : Bool). eqb a.len 0 || w) (ap ends_with_white (sym c.bytes.ensures) ∙ sym c.ends_with_white.ensures) ∙ c.if-text-ends_with_white.false in
    as_step (space_push (bytes a) a.len (sym (length-take-le a.len a.room.now a.fits)) e) c.push_byte.ensures
