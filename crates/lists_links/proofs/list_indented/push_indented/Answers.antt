use mathlib.Core.Path.{refl, ◌∙◌}
use Rattle.lists_links.specs.Items.{item_of, indented_block}
use Rattle.lists_links.proofs.ItemLines.{beside_behind}
use Rattle.text.proofs.Lifting.{lifted_writes}
use Rattle.text.proofs.Texts.{as_done, as_over}
use Rattle.text.proofs.Writing.{done, full}
use native.Mathlib.Omega.{arith}
use Rattle.lists_links.proofs.list_indented.push_indented.Goals as goal

pub returns-in_err-text : goal.returns-in_err-text
returns-in_err-text c =
    let v = c.push_block_from.ensures in
    as_over refl (v.long ∙ c.lift.ensures.long)
    (full c.in_err-text.was (lifted_writes {len = c.args.text.now.len} (omega arith) c.requires refl c.lift.ensures (indented_block (item_of c.args.item)) (beside_behind (omega (arith, c.lift.ensures.long, c.requires)) v)))
    c.from_residual.ensures.0

pub returns : goal.returns
returns c =
    let v = c.push_block_from.ensures in
    as_done refl
    (done c.in_ok-text.was (lifted_writes {len = c.args.text.now.len} (omega arith) c.requires refl c.lift.ensures (indented_block (item_of c.args.item)) (beside_behind (omega (arith, c.lift.ensures.long, c.requires)) v)))
