use mathlib.Core.Path.{refl, ◌∙◌}
use mathlib.Core.Bool.{cond}
use mathlib.Core.List.{[]}
use Rattle.spec.specs.Names.{tag_of}
use Rattle.spec.specs.Out.{keep, push}
use Rattle.spec.specs.Md.Heading.{md_prefix}
use Rattle.spec.specs.Md.Serializer.{opened}
use Rattle.text.specs.Texts.{bytes}
use Rattle.text.proofs.Texts.{as_step, kept, next, stop}
use Rattle.nodes.proofs.Interrupts.{element_name}
use Rattle.elements.proofs.Openings.{opened_on}
use Rattle.elements.proofs.steps.opened.Goals as goal

pub returns-then-opts : goal.returns-then-opts
unfolding opened
returns-then-opts c =
    λ name attrs kids x. as_step {f = keep} (rw c.if-opts.true refl) (kept _)

pub returns : goal.returns
returns c =
    λ name attrs kids x.
    as_step (opened_on c.args.opts (tag_of name) attrs kids (bytes c.args.text.now) c.if-opts.false (c.node_name-name.ensures ∙ element_name x))
    (next c.in_ok-open_break.was (c.open_break.ensures name attrs kids x) c.push_opening.ensures)

pub returns-in_err-open_break : goal.returns-in_err-open_break
returns-in_err-open_break c =
    λ name attrs kids x.
    as_step (opened_on c.args.opts (tag_of name) attrs kids (bytes c.args.text.now) c.if-opts.false (c.node_name-name.ensures ∙ element_name x))
    (stop (push (cond c.args.opts.link_body [] (md_prefix c.node_name-name.result))) c.in_err-open_break.was (c.open_break.ensures name attrs kids x) c.from_residual.ensures.0)
