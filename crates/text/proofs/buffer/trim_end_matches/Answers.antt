use Rattle.std.proofs.Common.{refl, sym, ◌∙◌, ◌-◌, length, arith, length-take}
use Rattle.std.proofs.Math.Seq.{take-length}
use Rattle.text.proofs.Trimming.{front_less, last_less, last_here, last_none}
use Rattle.text.proofs.buffer.trim_end_matches.Goals as goal

pub loop-rest-init : goal.loop-rest-init
loop-rest-init g c = record { within = omega arith; is = take-length c.args.s.now; trims = refl }

pub loop-rest-smaller : goal.loop-rest-smaller
loop-rest-smaller g c =
    let r = c.loop-rest.rest.now in omega (arith, length-take (length r - 1) r, c.in-len1-up.len_at_least)

pub loop-rest-preserved : goal.loop-rest-preserved
loop-rest-preserved g c =
    let r = c.loop-rest.rest.now in
    let i = c.loop-rest.invariant in
    record {
      within = omega (arith, length-take (length r - 1) r, i.within);
      is = front_less c.args.s.now r i.within i.is;
      trims = i.trims ∙ last_less g.C.ByteClass.holds r c.in-len1-up.len_at_least (sym c.has.ensures ∙ c.if-not-has.false);
    }

pub returns-in_default : goal.returns-in_default
returns-in_default g c =
    let i = c.loop-rest.invariant in
    record { within = i.within; is = i.is ∙ sym (i.trims ∙ last_none g.C.ByteClass.holds c.loop-rest.rest.now c.in_default.len_below) }

pub returns-then-not-has : goal.returns-then-not-has
returns-then-not-has g c =
    let i = c.loop-rest.invariant in
    record { within = i.within; is = i.is ∙ sym (i.trims ∙ last_here g.C.ByteClass.holds c.loop-rest.rest.now c.in-len1-up.len_at_least (sym c.has.ensures ∙ c.if-not-has.true)) }
