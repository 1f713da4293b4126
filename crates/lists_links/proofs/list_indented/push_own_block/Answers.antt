use Prim.Native.Nat.{ℕ}
use mathlib.Core.Path.{sym, ap}
use mathlib.Core.List.{List}
use Rattle.spec.specs.Bytes.{split}
use Rattle.spec.specs.Out.{push}
use Rattle.spec.specs.Md.Elements.List.{block_lines, is_line_end}
use Rattle.lists_links.specs.Items.{item_of}
use Rattle.text.specs.Texts.{bytes}
use Rattle.text.proofs.Texts.{as_step, next, stop}
use Rattle.lists_links.proofs.ItemLines.{block_is}
use Rattle.lists_links.proofs.list_indented.push_own_block.Goals as goal

pub returns-in_err-own_line : goal.returns-in_err-own_line
returns-in_err-own_line c = stop _ c.in_err-own_line.was c.own_line.ensures c.from_residual.ensures.0

pub returns : goal.returns
returns c =
    let e = block_is c.args.block.now c.trim_start_matches.result c.trim_end_matches.result c.trim_start_matches.ensures c.trim_end_matches.ensures in
    next c.in_ok-own_line.was c.own_line.ensures
    (as_step (ap (λ (x : List ℕ). push (block_lines (item_of c.args.item) (split is_line_end x)) (bytes c.own_line.new.text)) (sym e)) c.push_lines.ensures)
