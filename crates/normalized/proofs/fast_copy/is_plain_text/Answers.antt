use Rattle.std.proofs.Common.{◌≡◌, ℕ, ◌+◌, ◌-◌, length, sym, ap, ◌∙◌, arith}
use lib.Seq.{take-length}
use lib.ListN.{take, drop}
use Rattle.normalized.proofs.Flowing.{flows_on, flows_next, flows_short, block_plain}
use Rattle.normalized.proofs.fast_copy.is_plain_text.Goals as goal

pub loop-i-preserved : goal.loop-i-preserved
loop-i-preserved c =
    let r = c.is_plain in
    flows_next c.loop-i.invariant (record { followed = omega arith; adds_itself = r.ensures (c.if-not-is_plain.false) })

pub overflow_sub-last-in-Some : goal.overflow_sub-last-in-Some
overflow_sub-last-in-Some c = omega (arith, flows_short c.plain_blocks.ensures c.requires)

pub returns-in-Some : goal.returns-in-Some
returns-in-Some c =
    let s = c.args.s.now in let v = c.in-Some.ensures.cases in let b = c.in-Some.block.now in
    let at = length s - 17 in
    let z : at + 17 ≡ length s = omega (arith, v.0) in
    let e = v.1.same ∙ sym (ap (drop at) (ap (λ (k : ℕ). take k s) z ∙ take-length s)) in
    λ q n h. flows_on c.plain_blocks.ensures (omega (arith, h))
    (λ j k l. block_plain s b at (omega (arith, z)) e (c.is_plain_block.ensures q) j (omega (arith, v.0, k, c.if-last-plain_blocks-ge16.false)) (omega (arith, v.0, h, l)))
