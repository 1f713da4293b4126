use Rattle.std.proofs.Common.{ℕ, List, ap, sym, ◌∙◌}
use lib.ListN.{take}
use Rattle.spec.specs.Out.{push}
use Rattle.spec.specs.Md.TextUtils.{push_normalized_text, normalized}
use Rattle.text.specs.Texts.{bytes}
use Rattle.text.proofs.Texts.{as_step}
use Rattle.normalized.proofs.Normal.{normal_opts}
use Rattle.normalized.proofs.normalize.push_text_part.Goals as goal

pub returns-then-is_verbatim : goal.returns-then-is_verbatim
unfolding push_normalized_text
returns-then-is_verbatim c =
    let a = c.args in let t = bytes a.text.now in let part = take a.n a.s.now in
    λ opts i s l. as_step
    (ap (λ (x : List ℕ). push x t) (ap (λ (u : List ℕ). normalized opts u part) (sym c.bytes.ensures) ∙ c.is_verbatim.ensures c.if-is_verbatim.true opts s l))
    c.push_part.ensures

pub returns : goal.returns
returns c =
    let t = bytes c.args.text.now in
    λ opts i s l. as_step (normal_opts opts _ _ t i s l) c.push_words.ensures
