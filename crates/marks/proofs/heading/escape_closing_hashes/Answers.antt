use Rattle.std.proofs.Common.{◌≡◌, Bool, List, ℕ, cond, ◌&&◌, ◌∷◌, ◌++◌, refl, ap, ◌∙◌, subst, take, drop}
use lib.Dec.{ltb}
use Rattle.spec.specs.Out.{replace, keep}
use Rattle.spec.specs.Md.Heading.{escape_closing_hashes}
use Rattle.text.specs.Texts.{bytes}
use Rattle.text.proofs.Texts.{as_step, kept}
use Rattle.marks.proofs.Headings.{closing}
use Rattle.marks.proofs.heading.escape_closing_hashes.Goals as goal

pub returns-then-stem-n : goal.returns-then-stem-n
returns-then-stem-n c =
    let t = c.args.text.now in let n = c.trim_end-n.result in let k = c.trim_end_matches-stem.result in
    let put = λ (u : List ℕ). take k u ++ (92 ∷ drop k u) in
    let e : escape_closing_hashes (bytes t) ≡ cond (ltb k n && c.ends_with_byte.result) (replace put (bytes t)) (keep (bytes t)) =
    subst (λ (s : List ℕ). escape_closing_hashes s ≡ cond (ltb k n && c.ends_with_byte.result) (replace put s) (keep s)) c.bytes-s.ensures
    (closing c.bytes-s.result.now n k c.trim_end-n.ensures c.trim_end_matches-stem.ensures (ltb k n) c.ends_with_byte.result refl c.ends_with_byte.ensures) in
    as_step (e ∙ ap (λ (b : Bool). cond b (replace put (bytes t)) (keep (bytes t))) c.if-stem-n.true) c.insert_byte.ensures

pub returns : goal.returns
returns c =
    let t = c.args.text.now in let n = c.trim_end-n.result in let k = c.trim_end_matches-stem.result in
    let put = λ (u : List ℕ). take k u ++ (92 ∷ drop k u) in
    let e : escape_closing_hashes (bytes t) ≡ cond (ltb k n && c.ends_with_byte.result) (replace put (bytes t)) (keep (bytes t)) =
    subst (λ (s : List ℕ). escape_closing_hashes s ≡ cond (ltb k n && c.ends_with_byte.result) (replace put s) (keep s)) c.bytes-s.ensures
    (closing c.bytes-s.result.now n k c.trim_end-n.ensures c.trim_end_matches-stem.ensures (ltb k n) c.ends_with_byte.result refl c.ends_with_byte.ensures) in
    as_step (e ∙ ap (λ (b : Bool). cond b (replace put (bytes t)) (keep (bytes t))) c.if-stem-n.false) (kept t)
