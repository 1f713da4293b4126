use lib.ListN.{length}
use Rattle.spec.specs.Bytes.{split}
use Rattle.spec.specs.Out.{push}
use Rattle.spec.specs.Md.Elements.List.{block_lines, is_line_end}
use Rattle.lists_links.specs.Items.{item_of}
use Rattle.text.proofs.Texts.{Owes}
use Rattle.lists_links.proofs.list_indented.push_lines.Given as goal

abbrev pub invariant-loop-rest : goal.invariant-loop-rest
invariant-loop-rest l = Owes l.fn.text l.text (push (block_lines (item_of l.item) (split is_line_end l.rest))) (push (block_lines (item_of l.item) (split is_line_end l.block)))

abbrev pub decreases-loop-rest : goal.decreases-loop-rest
decreases-loop-rest l = length l.rest
