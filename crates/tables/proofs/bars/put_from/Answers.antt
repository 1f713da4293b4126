use Rattle.std.proofs.Common.{◌-◌, refl, arith}
use lib.ListN.{length, drop, length-take, length-drop}
use Rattle.text.proofs.Moving.{moved_on}
use Rattle.text.proofs.Temporary.{lent}
use Rattle.tables.proofs.Putting.{puts_moved}
use Rattle.tables.proofs.bars.put_from.Goals as goal

pub loop-i-preserved : goal.loop-i-preserved
loop-i-preserved c =
    let t = c.args.text.now in
    let l = c.loop-i in
    moved_on (lent t.room.now t.len) l.room (c.args.src - t.len) l.i (omega (arith, length-take (length t.room.now - t.len) (drop t.len t.room.now), length-drop t.len t.room.now)) l.invariant

pub returns : goal.returns
returns c =
    let t = c.args.text.now in
    let l = c.loop-i in
    record {
      room_is = refl;
      puts = puts_moved t.room.now l.room t.len c.args.src c.args.n l.i c.requires.0 c.requires.1 (omega arith) l.invariant;
    }
