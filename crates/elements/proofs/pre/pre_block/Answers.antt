use mathlib.Core.Path.{refl}
use mathlib.Core.Bool.{cond}
use mathlib.Core.List.{[]}
use Rattle.spec.specs.Bytes.{ascii, ends_with, or_nothing}
use Rattle.spec.specs.Tree.{text_of}
use Rattle.spec.specs.Md.Elements.Code.{find_code_language}
use Rattle.text.specs.Texts.{bytes}
use Rattle.nodes.proofs.Interrupts.{element_kids}
use Rattle.elements.specs.PreStep.{pre_step}
use Rattle.elements.proofs.Behind.{behind_from, behind_writes, block_over, stop_as}
use Rattle.elements.proofs.pre.pre_block.Goals as goal

pub overflow_sub-n : goal.overflow_sub-n
overflow_sub-n c =
    let p = c.requires.0 in behind_from _ c.in_ok-push_text_of.was (c.push_text_of.ensures c.args.i p.2 (element_kids p.3 c.node_end.ensures))

pub returns : goal.returns
returns c =
    λ name attrs kids anc x y. behind_writes _ c.in_ok-push_text_of.was (c.push_text_of.ensures c.args.i kids (element_kids x c.node_end.ensures))
    (pre_step (or_nothing (find_code_language anc attrs kids))) refl refl refl (c.push_pre.ensures name attrs kids anc x y)

pub returns-in_err-push_text_of : goal.returns-in_err-push_text_of
returns-in_err-push_text_of c =
    let t = bytes c.args.text.now in
    λ name attrs kids anc x y. stop_as c.in_err-push_text_of.was (c.push_text_of.ensures c.args.i kids (element_kids x c.node_end.ensures)) c.from_residual.ensures.0
    (block_over (cond (ends_with (ascii "\n\n") t) [] (ascii "\n")) (or_nothing (find_code_language anc attrs kids)) (text_of kids) t)
