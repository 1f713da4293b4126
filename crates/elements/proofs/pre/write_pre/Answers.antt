use Rattle.spec.specs.Bytes.{or_nothing}
use Rattle.spec.specs.Tree.{text_of}
use Rattle.spec.specs.Md.Elements.Code.{find_code_language, pre_in_link, write_pre}
use Rattle.text.specs.Texts.{bytes}
use Rattle.text.proofs.Texts.{as_step}
use Rattle.text.proofs.Writing.{yes, no}
use Rattle.nodes.proofs.Interrupts.{element_kids}
use Rattle.elements.specs.PreStep.{pre_step}
use Rattle.elements.proofs.pre.write_pre.Goals as goal

pub returns-then-opts : goal.returns-then-opts
unfolding write_pre
returns-then-opts c =
    let t = bytes c.args.text.now in
    λ name attrs kids anc x y. as_step (yes (pre_in_link (text_of kids) t) (pre_step (or_nothing (find_code_language anc attrs kids)) (text_of kids) t) c.if-opts.true)
    (c.pre_in_link.ensures c.args.i kids (element_kids x c.node_end.ensures))

pub returns : goal.returns
unfolding write_pre
returns c =
    let t = bytes c.args.text.now in
    λ name attrs kids anc x y. as_step (no (pre_in_link (text_of kids) t) (pre_step (or_nothing (find_code_language anc attrs kids)) (text_of kids) t) c.if-opts.false)
    (c.pre_block.ensures name attrs kids anc x y)
