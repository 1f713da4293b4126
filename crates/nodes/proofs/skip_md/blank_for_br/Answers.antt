use Rattle.std.proofs.Common.{[], ◌∷◌, ap, sym, ◌∙◌}
use Rattle.spec.specs.Bytes.{ends_with}
use Rattle.text.specs.Texts.{bytes}
use Rattle.text.proofs.Texts.{as_step, kept}
use Rattle.nodes.proofs.Spots.{br_other, br_ended, br_blank}
use Rattle.nodes.proofs.skip_md.blank_for_br.Goals as goal
use Rattle.nodes.proofs.skip_md.blank_for_br.Goals.{then-name-ne-BR-via-then-name-ne-BR, then-name-ne-BR-via-else-name-ne-BR+then-ends_with_byte}

pub returns-then-name-ne-BR : goal.returns-then-name-ne-BR
returns-then-name-ne-BR c =
    let t = c.args.text.now in
    elim c.then-name-ne-BR.branch [
      | then-name-ne-BR-via-then-name-ne-BR w ↦ as_step (br_other c.args.name (bytes t) w.if-name-ne-BR.true) (kept t)
      | then-name-ne-BR-via-else-name-ne-BR+then-ends_with_byte w ↦ as_step (br_ended c.args.name (bytes t) (ap (ends_with (32 ∷ [])) (sym w.bytes.ensures) ∙ sym w.ends_with_byte.ensures ∙ w.if-ends_with_byte.true)) (kept t)
    ]

pub returns : goal.returns
returns c =
    as_step (br_blank c.args.name (bytes c.args.text.now) c.if-name-ne-BR.false (ap (ends_with (32 ∷ [])) (sym c.bytes.ensures) ∙ sym c.ends_with_byte.ensures ∙ c.if-ends_with_byte.false)) c.push_byte.ensures
