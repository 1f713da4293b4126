use mathlib.Core.Path.{◌∙◌, refl, ap, ap₂}
use mathlib.Core.Bool.{Bool}
use Rattle.text.proofs.Texts.{as_step}
use Rattle.elements.specs.JoinedWords.{answer_of}
use Rattle.nodes.proofs.Appending.{appends_node, appends_on, appends_stop, appends_end}
use Rattle.tree.specs.Nodes.{text_at}
use Rattle.tree.proofs.NodeFields.{of_node}
use Rattle.elements.proofs.Joining.{words_spell, words_all}
use Rattle.elements.proofs.pre.push_words.Goals as goal

pub returns-in_err-state : goal.returns-in_err-state
returns-in_err-state c =
    λ parent f h. as_step (words_all f _)
    (appends_stop c.loop-i.invariant words_spell c.loop-i-test.true (c.text.ensures ∙ of_node text_at c.field.ensures) c.join_words.ensures.writes (ap answer_of c.in_err-state.was) c.from_residual.ensures.0 parent f h)

pub loop-i-preserved : goal.loop-i-preserved
loop-i-preserved c =
    let j = c.in_ok-state.ensures in
    appends_on c.loop-i.invariant words_spell c.loop-i-test.true (c.text.ensures ∙ of_node text_at c.field.ensures) j.writes (ap₂ (λ (x y : Bool). (x, y)) j.state.0 j.state.1) refl

pub returns : goal.returns
returns c = λ parent f h. as_step (words_all f _) (appends_end c.loop-i.invariant words_spell c.loop-i-test.false parent f h)

pub field-requires : goal.field-requires
field-requires c =
    let n = appends_node c.loop-i.invariant c.requires c.loop-i-test.true in (n.inside, n.placed)
