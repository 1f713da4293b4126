use mathlib.Core.Path.{sym, ◌∙◌}
use Rattle.spec.specs.Call.{tags_to_skip}
use Rattle.spec.specs.Md.Serializer.{serializer}
use Rattle.input.specs.Scans.{skip_of}
use Rattle.text.specs.Texts.{bytes}
use Rattle.text.proofs.Texts.{as_step}
use Rattle.nodes.proofs.Interrupts.{element_kids}
use Rattle.elements.proofs.Multilines.{code_block, code_line}
use Rattle.elements.proofs.code.write_code.Goals as goal

pub returns-then-is_multiline : goal.returns-then-is_multiline
returns-then-is_multiline c =
    λ levels name attrs kids anc x a. as_step
    (code_block (serializer (tags_to_skip (skip_of c.args.skip)) levels) anc c.args.opts name attrs kids (bytes c.args.text.now)
    (sym (c.is_multiline.ensures c.args.i kids (element_kids x c.node_end-to.ensures)) ∙ c.if-is_multiline.true))
    (c.write_pre.ensures name attrs kids anc x a)

pub returns : goal.returns
returns c =
    λ levels name attrs kids anc x a. as_step
    (code_line (serializer (tags_to_skip (skip_of c.args.skip)) levels) anc c.args.opts name attrs kids (bytes c.args.text.now)
    (sym (c.is_multiline.ensures c.args.i kids (element_kids x c.node_end-to.ensures)) ∙ c.if-is_multiline.false))
    (c.inline_code.ensures levels name attrs kids x)
