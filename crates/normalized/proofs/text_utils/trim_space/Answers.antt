use Rattle.std.proofs.Common.{refl, ◌≡◌, ℕ, List, take, subst, ap, ◌∙◌, arith}
use lib.Seq.{take-take, length-take-le}
use Rattle.spec.specs.Bytes.{one, white, trim_end_matches, trim_start_matches}
use Rattle.text.specs.Trimmed.{Trimmed, Skipped}
use Rattle.text.proofs.Spaces.{trim_space_done}
use Rattle.text.proofs.Texts.{as_done}
use Rattle.normalized.proofs.text_utils.trim_space.Goals as goal

pub returns : goal.returns
returns c =
    let a = c.args.text.now in
    let n = c.trim_end_matches-n.result in
    let t = subst (λ (s : List ℕ). Trimmed s n (trim_end_matches (one white) s)) c.bytes-s.ensures c.trim_end_matches-n.ensures in
    let within = t.within in
    let front : take n c.bytes-s.result.now ≡ take n a.room.now =
    ap (take n) c.bytes-s.ensures ∙ take-take n a.len a.room.now (omega (arith, within, length-take-le a.len a.room.now a.fits)) in
    let u = subst (λ (s : List ℕ). Skipped s c.trim_start_matches-k.result (trim_start_matches white s)) front c.trim_start_matches-k.ensures in
    as_done refl (trim_space_done a.room.now _ a.len _ _ a.fits t u c.drop_front.ensures.0 c.drop_front.ensures.1)
