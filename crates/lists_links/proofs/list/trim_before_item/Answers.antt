use Rattle.std.proofs.Common.{refl, sym, subst, ap, ◌∙◌, ◌≡◌, ℕ, List, Bool, true, false, ◌-◌, length, take, arith}
use lib.Seq.{length-take-le, take-take}
use Rattle.spec.specs.Bytes.{white, trim_start_matches, trim_ascii_start}
use Rattle.spec.specs.Out.{cut}
use Rattle.spec.specs.Md.TextUtils.{trim_blanks}
use Rattle.lists_links.specs.Items.{trimmed_start}
use Rattle.text.specs.Texts.{bytes}
use Rattle.text.specs.Trimmed.{Trimmed, Skipped}
use Rattle.text.specs.Writes.{Written}
use Rattle.text.proofs.Spaces.{cut_done, cut_both, skipped_in}
use Rattle.text.proofs.Texts.{as_done}
use Rattle.lists_links.proofs.list.trim_before_item.Goals as goal

pub returns-then-not-blocks : goal.returns-then-not-blocks
returns-then-not-blocks c =
    let t = c.args.text.now in let n = c.trim_trailing_space-n.result in
    let trimmed = subst (λ (s : List ℕ). Trimmed s n (trim_blanks s)) c.bytes-s.ensures c.trim_trailing_space-n.ensures in
    as_done refl
    (subst (λ (b : Bool). Written (length t.room.now) t.room.now n (cut (trimmed_start b) (bytes t))) (sym c.if-not-blocks.true)
    (cut_done (trimmed_start false) t.room.now t.len n t.fits trimmed))

pub returns : goal.returns
unfolding trim_ascii_start
returns c =
    let t = c.args.text.now in let n = c.trim_trailing_space-n.result in let k = c.trim_start_matches-k.result in
    let trimmed = subst (λ (s : List ℕ). Trimmed s n (trim_blanks s)) c.bytes-s.ensures c.trim_trailing_space-n.ensures in
    let front : take n c.bytes-s.result.now ≡ take n t.room.now =
    ap (take n) c.bytes-s.ensures ∙ take-take n t.len t.room.now (omega (arith, trimmed.within, length-take-le t.len t.room.now t.fits)) in
    let skipped = subst (λ (s : List ℕ). Skipped s k (trim_start_matches white s)) front c.trim_start_matches-k.ensures in
    as_done refl
    (subst (λ (b : Bool). Written (length t.room.now) c.drop_front.new.text (n - k) (cut (trimmed_start b) (bytes t))) (sym c.if-not-blocks.false)
    (cut_both (trimmed_start true) t.room.now _ t.len n k t.fits trimmed.within
    (skipped_in (trim_start_matches white) t.room.now t.len n k t.fits trimmed skipped) c.drop_front.ensures.0 c.drop_front.ensures.1))
