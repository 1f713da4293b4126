use mathlib.Core.Path.{ap, sym, ◌∙◌}
use mathlib.Core.Bool.{Bool, ◌&&◌}
use lib.ListN.{get_or}
use borrow.Author.Tests.{eq-eqb}
use Rattle.spec.specs.Bytes.{is_blank}
use Rattle.tree.specs.Nodes.{body_at}
use Rattle.tree.proofs.Kin.{first_text_lem}
use Rattle.serializer.proofs.texts.is_blank_text.Goals as goal

pub returns-then-tag-eq-TEXT : goal.returns-then-tag-eq-TEXT
unfolding is_blank
returns-then-tag-eq-TEXT c =
    let s = c.args.field.sheet.now in let p = c.args.field.place in
    let e = sym c.tag.ensures ∙ c.if-tag-eq-TEXT.true in
    c.all_in.ensures
    ∙ ap is_blank (c.text.ensures ∙ first_text_lem s p e)
    ∙ ap (λ (b : Bool). b && is_blank (body_at s p)) (sym (eq-eqb (get_or s p 0) 4 e))
