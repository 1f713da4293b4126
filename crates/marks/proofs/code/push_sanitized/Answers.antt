use Rattle.std.proofs.Common.{ap, sym, ◌∙◌, subst, ℕ, List, take, not}
use Rattle.spec.specs.Bytes.{white, trim_start_matches}
use Rattle.spec.specs.Out.{push}
use Rattle.spec.specs.Md.Elements.Code.{sanitize_attr_value, filter}
use Rattle.marks.specs.Kept.{kept_byte}
use Rattle.text.specs.Texts.{bytes}
use Rattle.text.specs.Trimmed.{Skipped}
use Rattle.text.proofs.Reading.{rest_part}
use Rattle.text.proofs.Texts.{as_step}
use Rattle.normalized.proofs.Wording.{first_word_lem}
use Rattle.marks.proofs.code.push_sanitized.Goals as goal

pub returns : goal.returns
unfolding sanitize_attr_value
returns c =
    let r = c.args.raw.now in let k = c.trim_start_matches.result in let n = c.trim_start_matches-2.result in
    let q = subst (λ (x : List ℕ). Skipped x n (trim_start_matches (λ b. not (white b)) x)) (rest_part k r) c.trim_start_matches-2.ensures in
    as_step (ap (λ (x : List ℕ). push (filter kept_byte x) (bytes c.args.text.now)) (first_word_lem r k n c.trim_start_matches.ensures q ∙ ap (take n) (sym (rest_part k r)))) c.push_filtered.ensures
