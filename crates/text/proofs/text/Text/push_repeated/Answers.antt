use Rattle.std.proofs.Common.{◌≡◌, ◌+◌, ℕ, replicate, sym, ap, ◌∙◌, refl, arith}
use Rattle.std.proofs.lemmas.List.{length-replicate}
use borrow.Rule.Slice.PartMut.{mid_len}
use Rattle.text.proofs.Texts.{full_for, puts}
use Rattle.text.proofs.text.Text.push_repeated.Goals as goal

pub returns-then-self-n : goal.returns-then-self-n
returns-then-self-n c =
    let a = c.args in
    full_for (replicate a.n a.b) (omega (arith, length-replicate a.n a.b, c.if-self-n.true))

pub returns : goal.returns
returns c =
    let a = c.args in
    let t = a.self.now in
    let long = mid_len t.len (t.len + a.n) t.room.now (omega (arith, t.fits, c.if-self-n.false)) in
    let filled : c.fill.new.self ≡ replicate a.n a.b =
    c.fill.ensures.after (λ y h. h) ∙ ap (λ (k : ℕ). replicate k a.b) (omega (arith, long)) in
    puts filled (sym (length-replicate a.n a.b)) (omega (arith, t.fits, c.if-self-n.false)) refl refl refl
