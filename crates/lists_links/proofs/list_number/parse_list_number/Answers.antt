use mathlib.Core.Path.{ap, ◌∙◌}
use mathlib.Core.List.{List}
use Prim.Native.Nat.{ℕ}
use Rattle.spec.specs.Md.Elements.List.{parse_list_number}
use Rattle.lists_links.specs.Parsed.{parsed_of, signed}
use Rattle.text.proofs.Reading.{rest_part}
use Rattle.lists_links.proofs.list_number.parse_list_number.Goals as goal

pub returns : goal.returns
unfolding parse_list_number
returns c =
    c.parse_signed.ensures ∙ ap (λ (s : List ℕ). parsed_of (signed s)) (rest_part c.trim_start_matches.result c.args.value.now ∙ c.trim_start_matches.ensures.is)
