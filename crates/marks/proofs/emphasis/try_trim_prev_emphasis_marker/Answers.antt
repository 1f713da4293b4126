use Rattle.std.proofs.Common.{◌+◌, [], ◌∷◌, refl, ap, sym, ◌∙◌, length, arith}
use Rattle.spec.specs.Bytes.{ends_with}
use Rattle.spec.specs.Out.{cut}
use Rattle.spec.specs.Md.Elements.Emphasis.{drop_end, ends_with_emphasis}
use Rattle.text.specs.Texts.{bytes}
use Rattle.text.proofs.Texts.{as_step, as_done, kept, next, pushes_nothing}
use Rattle.marks.proofs.Leaves.{prev_none, prev_space, prev_plain, short_done}
use Rattle.marks.proofs.emphasis.try_trim_prev_emphasis_marker.Goals as goal

pub returns-then-not-ends_with_emphasis : goal.returns-then-not-ends_with_emphasis
returns-then-not-ends_with_emphasis c =
    let m = c.args.marker.now in let t = c.args.text.now in
    as_step (prev_none m (bytes t) (ap (ends_with_emphasis m) (sym c.bytes.ensures) ∙ sym c.ends_with_emphasis.ensures ∙ c.if-not-ends_with_emphasis.true)) (kept t)

pub returns-then-ends_with_byte : goal.returns-then-ends_with_byte
returns-then-ends_with_byte c =
    let m = c.args.marker.now in let t = c.args.text.now in
    let ended = ap (ends_with_emphasis m) (sym c.bytes.ensures) ∙ sym c.ends_with_emphasis.ensures ∙ c.if-not-ends_with_emphasis.false in
    let blank = ap (ends_with (32 ∷ [])) (sym c.bytes-2.ensures) ∙ sym c.ends_with_byte.ensures ∙ c.if-ends_with_byte.true in
    as_step (prev_space m (bytes t) ended blank) (next refl (as_done {f = cut (drop_end (length m + 1))} refl (short_done t.room.now t.len t.fits (length m + 1) c.saturating_sub-text.result c.saturating_sub-text.ensures)) c.push_byte.ensures)

pub returns-else-ends_with_byte : goal.returns-else-ends_with_byte
returns-else-ends_with_byte c =
    let m = c.args.marker.now in let t = c.args.text.now in
    let ended = ap (ends_with_emphasis m) (sym c.bytes.ensures) ∙ sym c.ends_with_emphasis.ensures ∙ c.if-not-ends_with_emphasis.false in
    let blank = ap (ends_with (32 ∷ [])) (sym c.bytes-2.ensures) ∙ sym c.ends_with_byte.ensures ∙ c.if-ends_with_byte.false in
    let n = c.saturating_sub-text-else-ends_with_byte.result in
    as_step (prev_plain m (bytes t) ended blank)
    (next refl (as_done {f = cut (drop_end (length m + 0))} refl (short_done t.room.now t.len t.fits (length m + 0) n (omega (arith, c.saturating_sub-text-else-ends_with_byte.ensures)))) (pushes_nothing _))
