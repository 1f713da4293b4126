use mathlib.Core.Path.{◌∙◌, refl}
use Rattle.spec.specs.Bytes.{Bytes}
use Rattle.tree.specs.Nodes.{text_at}
use Rattle.tree.proofs.NodeFields.{of_node}
use Rattle.nodes.proofs.Appending.{Spells, appends_node, appends_on, appends_stop, appends_end}
use Rattle.nodes.proofs.nodes.push_text_of.Goals as goal

-- each text appends itself, in one state
abbrev itself : Unit {0} → Bytes → Bytes
itself x s = s

spells : Spells itself (λ (x : Unit {0}) (s : Bytes). x)
spells = record { none = λ x. refl; joins = λ x s t. refl }

pub field-requires : goal.field-requires
field-requires c = let n = appends_node c.loop-i.invariant c.requires c.loop-i-test.true in (n.inside, n.placed)

pub returns-in_err-push_all : goal.returns-in_err-push_all
returns-in_err-push_all c =
    appends_stop c.loop-i.invariant spells c.loop-i-test.true (c.text.ensures ∙ of_node text_at c.field.ensures) c.push_all.ensures c.in_err-push_all.was c.from_residual.ensures.0

pub loop-i-preserved : goal.loop-i-preserved
loop-i-preserved c =
    appends_on c.loop-i.invariant spells c.loop-i-test.true (c.text.ensures ∙ of_node text_at c.field.ensures) c.push_all.ensures refl c.in_ok-push_all.was

pub returns : goal.returns
returns c =
    appends_end c.loop-i.invariant spells c.loop-i-test.false
