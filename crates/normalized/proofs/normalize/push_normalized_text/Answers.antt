use Rattle.std.proofs.Common.{ℕ, List, length, take, refl, ap, sym, ◌∙◌}
use lib.Seq.{take-length}
use Rattle.spec.specs.Md.TextUtils.{push_normalized_text}
use Rattle.text.specs.Texts.{bytes}
use Rattle.text.proofs.Texts.{as_step}
use Rattle.normalized.proofs.normalize.push_normalized_text.Goals as goal

pub returns : goal.returns
returns c =
    let a = c.args in let s = a.new_text.now in
    as_step (ap (λ (x : List ℕ). push_normalized_text x a.f_opts (bytes a.text.now)) (sym (ap (take (length s)) (take-length s) ∙ take-length s)))
    (c.push_text_part.ensures a.f_opts refl refl refl)
