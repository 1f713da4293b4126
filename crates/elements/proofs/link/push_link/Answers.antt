use Rattle.std.proofs.Common.{ℕ, List, refl, arith}
use Rattle.tree.specs.NodeFields.{attrs_of}
use Rattle.text.specs.Texts.{bytes}
use Rattle.text.proofs.Texts.{as_step, kept}
use Rattle.text.proofs.Parts.{lifted_to}
use Rattle.elements.specs.LinkStep.{append_by, link_shown}
use Rattle.elements.proofs.Links.{link_none, link_some}
use Rattle.elements.proofs.link.push_link.Goals as goal

pub returns-then-n-eq0 : goal.returns-then-n-eq0
returns-then-n-eq0 c =
    let a = c.args in let t = a.text.now in
    as_step (link_none t.room.now t.len a.n (attrs_of a.field) a.dest.now (append_by a.plain a.opts) (bytes t) c.if-n-eq0.true) (kept t)

pub returns : goal.returns
returns c =
    let a = c.args in let t = a.text.now in let attrs = attrs_of a.field in let href = a.dest.now in
    as_step (link_some t.room.now t.len a.n attrs href (append_by a.plain a.opts) (bytes t) c.requires.0 c.if-n-eq0.false)
    (lifted_to (omega arith) c.requires.0 refl c.lift.ensures refl refl (λ (s u : List ℕ). link_shown attrs href s (append_by a.plain a.opts) u) c.push_shown.ensures)
