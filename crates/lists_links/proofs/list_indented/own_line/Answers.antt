use Prim.Native.Nat.{max}
use mathlib.Core.Path.{refl, sym, ap, ◌∙◌}
use mathlib.Core.List.{◌++◌}
use lib.ListN.{length, replicate}
use Rattle.spec.specs.Bytes.{trim_end}
use Rattle.spec.specs.Out.{keep, cut, push, and_then}
use Rattle.spec.specs.Md.Ctx.{break_of}
use Rattle.spec.specs.Md.Elements.List as def
use Rattle.lists_links.specs.Items.{item_of}
use Rattle.text.specs.Texts.{bytes}
use Rattle.text.proofs.Texts.{as_step, next, kept, cuts}
use Rattle.text.proofs.Writing.{yes, no}
use Rattle.lists_links.proofs.list_indented.own_line.Goals as goal

pub returns-then-at_line_start : goal.returns-then-at_line_start
unfolding def.own_line
returns-then-at_line_start c =
    let a = c.args.text.now in let item = c.args.item in
    let moved = and_then (cut (λ u. def.truncate (max (length (trim_end u)) item.start) u) (bytes a)) (push (break_of item.ctx ++ replicate item.indent 32)) in
    let e = ap (def.at_line_start (item_of item)) (sym c.bytes.ensures) ∙ sym c.at_line_start.ensures ∙ c.if-at_line_start.true in
    as_step (yes (keep (bytes a)) moved e) (kept a)

pub returns : goal.returns
unfolding def.own_line
returns c =
    let a = c.args.text.now in let item = c.args.item in
    let moved = and_then (cut (λ u. def.truncate (max (length (trim_end u)) item.start) u) (bytes a)) (push (break_of item.ctx ++ replicate item.indent 32)) in
    let e = ap (def.at_line_start (item_of item)) (sym c.bytes.ensures) ∙ sym c.at_line_start.ensures ∙ c.if-at_line_start.false in
    as_step (no (keep (bytes a)) moved e)
    (next refl (cuts (λ u. def.truncate (max (length (trim_end u)) item.start) u) c.bytes-2.ensures c.trim_item_end-text.ensures refl refl refl) c.push_line_start.ensures)
