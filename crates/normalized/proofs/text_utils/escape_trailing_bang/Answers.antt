use Rattle.std.proofs.Common.{ℕ, List, [], ◌∷◌, ◌++◌, ◌-◌, length, take, drop, sym, ap, ◌∙◌, arith}
use lib.Seq.{length-take-le}
use Rattle.spec.specs.Bytes.{ends_with}
use Rattle.spec.specs.Out.{replace}
use Rattle.text.specs.Texts.{bytes}
use Rattle.text.proofs.Reading.{ends_some}
use Rattle.text.proofs.Spaces.{bang_none, bang_some}
use Rattle.text.proofs.Texts.{as_step, kept}
use Rattle.normalized.proofs.text_utils.escape_trailing_bang.Goals as goal

pub returns-then-not-ends_with_byte : goal.returns-then-not-ends_with_byte
returns-then-not-ends_with_byte c =
    let a = c.args.text.now in
    let e = ap (ends_with (33 ∷ [])) (sym c.bytes.ensures) ∙ sym c.ends_with_byte.ensures ∙ c.if-not-ends_with_byte.true in
    as_step (bang_none (bytes a) e) (kept a)

pub overflow_sub-text : goal.overflow_sub-text
overflow_sub-text c =
    let a = c.args.text.now in
    omega (arith, ends_some c.bytes.result.now 33 (sym c.ends_with_byte.ensures ∙ c.if-not-ends_with_byte.false), ap length c.bytes.ensures, length-take-le a.len a.room.now a.fits)

pub returns : goal.returns
returns c =
    let a = c.args.text.now in
    let e = ap (ends_with (33 ∷ [])) (sym c.bytes.ensures) ∙ sym c.ends_with_byte.ensures ∙ c.if-not-ends_with_byte.false in
    as_step (bang_some (bytes a) e ∙ ap (λ (k : ℕ). replace (λ (t : List ℕ). take (k - 1) t ++ (92 ∷ drop (k - 1) t)) (bytes a)) (length-take-le a.len a.room.now a.fits))
    c.insert_byte.ensures
