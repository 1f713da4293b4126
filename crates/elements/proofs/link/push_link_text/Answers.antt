use Rattle.std.proofs.Common.{refl, drop}
use Rattle.text.proofs.Parts.{front_full, front_stop}
use Rattle.elements.specs.LinkStep.{append_by, bracket, link_front}
use Rattle.elements.proofs.Links.{front_to, front_over}
use Rattle.elements.proofs.link.push_link_text.Goals as goal

pub returns : goal.returns
unfolding link_front
returns c =
    let a = c.args in let t = a.text.now in
    front_to t a.base c.requires.0 c.requires.1 bracket c.push_bracket_in.auto.room c.push_bracket_in.ensures c.in_ok-text.was (append_by a.plain a.opts) c.push_by.ensures refl refl refl

pub returns-in_err-text : goal.returns-in_err-text
unfolding link_front
returns-in_err-text c =
    let a = c.args in let t = a.text.now in
    front_stop t a.base c.requires.0 c.requires.1 bracket c.push_bracket_in.auto.room c.push_bracket_in.ensures refl
    (front_over t.room.now a.base c.requires.1 (append_by a.plain a.opts (drop a.base t.room.now)) (front_full t a.base c.requires.0 c.requires.1 bracket c.push_bracket_in.auto.room c.push_bracket_in.ensures c.in_err-text.was))
    c.from_residual.ensures.0 refl refl
