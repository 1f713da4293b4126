use Rattle.spec.specs.Tree.{text_of}
use Rattle.spec.specs.Md.TextUtils.{push_block_space}
use Rattle.text.specs.Texts.{bytes}
use Rattle.text.proofs.Texts.{as_step, next, stop}
use Rattle.elements.proofs.Behind.{span_in_link, in_link_lem}
use Rattle.elements.proofs.pre.pre_in_link.Goals as goal

pub returns : goal.returns
returns c =
    λ parent f h. as_step (in_link_lem (text_of f) (bytes c.args.text.now))
    (next c.in_ok-push_block_space.was c.push_block_space.ensures (next c.in_ok-push_word_span.was (c.push_word_span.ensures parent f h) c.push_block_space-2.ensures))

pub returns-in_err-push_word_span : goal.returns-in_err-push_word_span
returns-in_err-push_word_span c =
    λ parent f h. as_step (in_link_lem (text_of f) (bytes c.args.text.now))
    (next c.in_ok-push_block_space.was c.push_block_space.ensures (stop push_block_space c.in_err-push_word_span.was (c.push_word_span.ensures parent f h) c.from_residual-in_err-push_word_span.ensures.0))

pub returns-in_err-push_block_space : goal.returns-in_err-push_block_space
returns-in_err-push_block_space c =
    λ parent f h. as_step (in_link_lem (text_of f) (bytes c.args.text.now)) (stop (span_in_link (text_of f)) c.in_err-push_block_space.was c.push_block_space.ensures c.from_residual.ensures.0)
