use Rattle.std.proofs.Common.{ℕ, List, drop, ap, ◌∙◌}
use Rattle.spec.specs.Bytes.{null, parts, split}
use Rattle.spec.specs.Out.{push}
use Rattle.spec.specs.Md.Elements.List.{block_lines, is_line_end}
use Rattle.lists_links.specs.Items.{item_of}
use Rattle.text.specs.Texts.{bytes}
use Rattle.text.proofs.Reading.{rest_part}
use Rattle.text.proofs.Texts.{owes_step, owes_stop, owes_last, pushes_nothing}
use Rattle.lists_links.proofs.ItemLines.{lines_turn, lines_end}
use Rattle.lists_links.proofs.list_indented.push_lines.Goals as goal

pub loop-rest-preserved : goal.loop-rest-preserved
loop-rest-preserved c =
    let l = c.loop-rest in let r = l.rest.now in let item = item_of c.args.item in
    let e = c.is_line_empty.ensures ∙ ap (λ (s : List ℕ). null (parts is_line_end s).0) (rest_part 1 r) in
    rw (rest_part 1 r) (owes_step l.invariant (push (block_lines item (split is_line_end (drop 1 r)))) (lines_turn item r (bytes l.text) c.is_line_empty.result c.in-len1-up.len_at_least e)
    c.in_ok-push_line_byte.was c.push_line_byte.ensures)

pub returns-in_err-push_line_byte : goal.returns-in_err-push_line_byte
returns-in_err-push_line_byte c =
    let l = c.loop-rest in let r = l.rest.now in let item = item_of c.args.item in
    let e = c.is_line_empty.ensures ∙ ap (λ (s : List ℕ). null (parts is_line_end s).0) (rest_part 1 r) in
    owes_stop l.invariant (push (block_lines item (split is_line_end (drop 1 r)))) (lines_turn item r (bytes l.text) c.is_line_empty.result c.in-len1-up.len_at_least e)
    c.in_err-push_line_byte.was c.push_line_byte.ensures c.from_residual.ensures.0

pub returns : goal.returns
returns c =
    let l = c.loop-rest in
    owes_last l.invariant (lines_end (item_of c.args.item) l.rest.now (bytes l.text) c.in_default.len_below) (pushes_nothing l.text)
