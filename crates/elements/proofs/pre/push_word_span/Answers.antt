use mathlib.Core.Path.{refl}
use native.Mathlib.Omega.{arith}
use lib.Seq.{length-take-le}
use Rattle.spec.specs.Bytes.{ascii, words, join}
use Rattle.spec.specs.Tree.{text_of}
use Rattle.spec.specs.Md.Elements.Code.{push_code_text}
use Rattle.text.specs.Texts.{bytes}
use Rattle.elements.proofs.Behind.{behind_from, behind_writes, span_over, stop_as}
use Rattle.elements.proofs.pre.push_word_span.Goals as goal

pub overflow_sub-n : goal.overflow_sub-n
overflow_sub-n c = let p = c.requires in behind_from _ c.in_ok-push_words.was (c.push_words.ensures p.0 p.1 p.2)

pub returns : goal.returns
returns c = λ parent f h. behind_writes _ c.in_ok-push_words.was (c.push_words.ensures parent f h) (push_code_text 0) refl refl refl c.push_code_text.ensures

pub returns-in_err-push_words : goal.returns-in_err-push_words
returns-in_err-push_words c =
    let t = c.args.text.now in
    λ parent f h. stop_as c.in_err-push_words.was (c.push_words.ensures parent f h) c.from_residual.ensures.0
    (span_over (join (ascii " ") (words (text_of f))) (bytes t) (omega (arith, length-take-le t.len t.room.now t.fits)))
