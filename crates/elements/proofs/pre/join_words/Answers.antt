use Rattle.std.proofs.Common.{◌+◌, not, ◌||◌, refl, sym, ◌∙◌, drop}
use Rattle.spec.specs.Out.{push}
use Rattle.text.specs.Texts.{bytes}
use Rattle.text.proofs.Texts.{owes_step, owes_stop, owes_last, pushes_nothing}
use Rattle.elements.specs.JoinedWords.{words_on}
use Rattle.elements.proofs.Joining.{joins_not, byte_turn, some_turn, gap_turn, bytes_end, some_end, gap_end}
use Rattle.elements.proofs.pre.join_words.Goals as goal

pub returns-in_err-push_word_byte : goal.returns-in_err-push_word_byte
returns-in_err-push_word_byte c =
    let s = c.args.s.now in let l = c.loop-b in
    joins_not c.from_residual.ensures.0
    (owes_stop l.invariant.owes (push (words_on _ _ (drop (l.b-index + 1) s)))
    (byte_turn s l.b-index c.loop-b-test.true l.some l.gap refl (bytes l.text)) c.in_err-push_word_byte.was c.push_word_byte.ensures refl)

pub loop-b-preserved : goal.loop-b-preserved
loop-b-preserved c =
    let s = c.args.s.now in let l = c.loop-b in let w = c.has-gap.result in
    record {
      owes = owes_step l.invariant.owes (push (words_on (l.some || not w) w (drop (l.b-index + 1) s)))
          (byte_turn s l.b-index c.loop-b-test.true l.some l.gap c.has-gap.ensures (bytes l.text)) c.in_ok-push_word_byte.was c.push_word_byte.ensures;
      some = l.invariant.some ∙ some_turn s l.b-index c.loop-b-test.true l.some l.gap c.has-gap.ensures;
      gap = l.invariant.gap ∙ gap_turn s l.b-index c.loop-b-test.true l.some l.gap c.has-gap.ensures;
    }

pub returns : goal.returns
returns c =
    let s = c.args.s.now in let l = c.loop-b in
    record {
      writes = owes_last l.invariant.owes (bytes_end s l.b-index c.loop-b-test.false l.some l.gap (bytes l.text)) (pushes_nothing l.text);
      state = (
        sym (l.invariant.some ∙ some_end s l.b-index c.loop-b-test.false l.some l.gap),
        sym (l.invariant.gap ∙ gap_end s l.b-index c.loop-b-test.false l.some l.gap),
      );
    }
