use mathlib.Core.List.{◌∷◌}
use Rattle.spec.specs.Md.Elements.Code.{find_code_language}
use Rattle.nodes.proofs.Interrupts.{element_kids}
use Rattle.elements.proofs.Languages.{around_it, language_first, language_second}
use Rattle.elements.proofs.code_language.find_code_language.Goals as goal

pub nearest_language-requires : goal.nearest_language-requires
nearest_language-requires c =
    let p = c.requires in
    (p.0.1 ∷ p.1.0, around_it p.1.0 p.0.3 p.1.1)

pub returns-in-Some : goal.returns-in-Some
unfolding find_code_language
returns-in-Some c =
    λ name attrs kids anc x y. language_first _ (c.in-Some.ensures (attrs ∷ anc) (around_it anc x y))

pub returns-in-None : goal.returns-in-None
unfolding find_code_language
returns-in-None c =
    λ name attrs kids anc x y. language_second (c.in-None.ensures (attrs ∷ anc) (around_it anc x y))
    (c.find_code_language_css_class.ensures c.args.i kids (element_kids x c.node_end.ensures))
