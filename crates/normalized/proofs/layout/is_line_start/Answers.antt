use mathlib.Core.Path.{ap, sym, ◌∙◌}
use mathlib.Core.Bool.{Bool, ◌||◌}
use mathlib.Core.List.{[], ◌∷◌}
use lib.ListN.{length}
use lib.Dec.{eqb}
use Rattle.spec.specs.Bytes.{ends_with}
use Rattle.input.proofs.Rules.{null_length}
use Rattle.normalized.proofs.layout.is_line_start.Goals as goal

pub returns : goal.returns
returns c =
    let a = c.args in
    ap (λ (t : Bool). (eqb (length a.text.now) 0 || t) || a.opts.list_item) c.ends_with_byte.ensures
    ∙ ap (λ (t : Bool). (t || ends_with (10 ∷ []) a.text.now) || a.opts.list_item) (sym (null_length a.text.now))
