use Rattle.std.proofs.Common.{refl, arith}
use Rattle.text.proofs.Texts.{as_done}
use Rattle.normalized.proofs.Blocks.{own_writes}
use Rattle.normalized.proofs.normalize.push_stretch.Goals as goal

pub returns-then-even : goal.returns-then-even
returns-then-even c =
    let t = c.args.text.now in let v = c.in-Some.ensures.cases in
    as_done refl (own_writes c.args.s.now c.if-n-eq16.true v.enough (omega (arith, t.fits, c.if-text-ge32.true)) v.same c.in-Some-first_chunk.ensures.cases.same c.block_of-even.ensures c.if-even.true c.push_block-text.ensures)
