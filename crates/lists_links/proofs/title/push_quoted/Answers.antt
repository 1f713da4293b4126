use Prim.Native.Nat.{◌+◌}
use lib.ListN.{drop}
use Rattle.spec.specs.Out.{push}
use Rattle.spec.specs.Md.TextUtils.{each_byte, quote_escaped}
use Rattle.text.specs.Texts.{bytes}
use Rattle.text.proofs.Texts.{pushes_nothing, owes_step, owes_stop, owes_last}
use Rattle.lists_links.proofs.Titles.{each_turn, each_end}
use Rattle.lists_links.proofs.title.push_quoted.Goals as goal

pub returns-in_err-push_quoted_byte : goal.returns-in_err-push_quoted_byte
returns-in_err-push_quoted_byte c =
    let l = c.loop-b in let s = c.args.title.now in
    owes_stop l.invariant (push (each_byte quote_escaped (drop (l.b-index + 1) s))) (each_turn quote_escaped s (bytes l.text) l.b-index c.loop-b-test.true)
    c.in_err-push_quoted_byte.was c.push_quoted_byte.ensures c.from_residual.ensures.0

pub loop-b-preserved : goal.loop-b-preserved
loop-b-preserved c =
    let l = c.loop-b in let s = c.args.title.now in
    owes_step l.invariant (push (each_byte quote_escaped (drop (l.b-index + 1) s))) (each_turn quote_escaped s (bytes l.text) l.b-index c.loop-b-test.true)
    c.in_ok-push_quoted_byte.was c.push_quoted_byte.ensures

pub returns : goal.returns
returns c =
    let l = c.loop-b in
    owes_last l.invariant (each_end quote_escaped c.args.title.now (bytes l.text) l.b-index c.loop-b-test.false) (pushes_nothing l.text)
