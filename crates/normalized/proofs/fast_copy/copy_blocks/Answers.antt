use Rattle.std.proofs.Common.{◌+◌, ◌∙◌, arith}
use borrow.Rule.Slice.PartMut.{same_len_mid}
use Rattle.normalized.proofs.Blocks.{block_on, block_cut}
use Rattle.normalized.proofs.fast_copy.copy_blocks.Goals as goal

pub loop-i-preserved : goal.loop-i-preserved
loop-i-preserved c =
    let a = c.args in let l = c.loop-i in let h = c.loop-i-test.true in let v = l.invariant in
    let e = c.copy_from_slice.ensures.after ∙ c.bytes_at.ensures in
    (omega (arith, h), same_len_mid (a.at + l.i) _ l.room _ c.copy_from_slice.ensures.len ∙ v.1, block_on a.room.now a.s.now a.at l.room c.copy_from_slice.new.self l.i _ (omega (arith, h, v.1, c.requires.0)) (omega (arith, h, c.requires.1)) e v.2)

pub returns : goal.returns
returns c =
    let a = c.args in let l = c.loop-i in let v = l.invariant in
    (v.1, block_cut a.room.now a.s.now a.at l.room a.n l.i c.loop-i-test.false (omega (arith, c.requires.0)) v.2)
