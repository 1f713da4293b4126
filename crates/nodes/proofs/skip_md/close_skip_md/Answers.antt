use Rattle.std.proofs.Common.{[], ◌∷◌, ap, sym, ◌∙◌}
use Rattle.spec.specs.Bytes.{ends_with}
use Rattle.text.specs.Texts.{bytes}
use Rattle.text.proofs.Texts.{as_step, kept}
use Rattle.nodes.proofs.Spots.{close_ended, close_on}
use Rattle.nodes.proofs.skip_md.close_skip_md.Goals as goal

pub returns-then-ends_with : goal.returns-then-ends_with
returns-then-ends_with c =
    let e = ap (ends_with (10 ∷ 10 ∷ [])) (sym c.bytes.ensures) ∙ sym c.ends_with.ensures ∙ c.if-ends_with.true in
    as_step (close_ended c.args.name (bytes c.args.text.now) e) (kept c.args.text.now)

pub returns : goal.returns
returns c =
    let e = ap (ends_with (10 ∷ 10 ∷ [])) (sym c.bytes.ensures) ∙ sym c.ends_with.ensures ∙ c.if-ends_with.false in
    as_step (close_on c.args.name (bytes c.args.text.now) e) c.blank_for_br.ensures
