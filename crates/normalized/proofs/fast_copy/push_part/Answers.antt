use Rattle.std.proofs.Common.{◌≡◌, ℕ, ◌-◌, ◌≤◌, ◌||◌, false, length, refl, arith}
use lib.ListN.{take}
use lib.Dec.{ltb}
use lib.Seq.{length-take-le}
use borrow.Author.Tests.{ltb-false}
use Rattle.text.proofs.Ordinary.{neither}
use Rattle.text.proofs.Texts.{as_done, full_for}
use Rattle.normalized.proofs.Blocks.{copied_done}
use Rattle.normalized.proofs.fast_copy.push_part.Goals as goal

-- 16 bytes are left on both sides
enough : (x y : ℕ) → ltb x 16 || ltb y 16 ≡ false → (16 ≤ x) × (16 ≤ y)
enough x y e = let q = neither (ltb x 16) (ltb y 16) e in (ltb-false x 16 q.0, ltb-false y 16 q.1)

pub returns-then-left-n : goal.returns-then-left-n
returns-then-left-n c =
    let a = c.args in
    full_for (take a.n a.s.now) (omega (arith, length-take-le a.n a.s.now c.requires, c.if-left-n.true))

pub copy_blocks-requires : goal.copy_blocks-requires
copy_blocks-requires c =
    let a = c.args in let t = a.text.now in
    let r = enough (length t.room.now - t.len - a.n) (length a.s.now - a.n) c.if-left-n-2.false in
    (omega (arith, r.0, t.fits, c.if-left-n.false), omega (arith, r.1, c.requires))

pub returns : goal.returns
returns c =
    let a = c.args in let t = a.text.now in
    as_done refl (copied_done t.room.now a.s.now t.len _ a.n c.requires (omega (arith, t.fits, c.if-left-n.false)) c.copy_blocks.ensures.0 c.copy_blocks.ensures.1)
