use Rattle.std.proofs.Common.{refl}
use Rattle.text.proofs.Moving.{insert_full, insert_done}
use Rattle.text.proofs.text.Text.insert_byte.Goals as goal

pub returns-then-self : goal.returns-then-self
returns-then-self c =
    let t = c.args.self.now in
    record {
      room_is = refl;
      long = refl;
      writes = record { says = insert_full t.room.now t.len c.args.at c.args.b c.requires t.fits c.if-self.true };
    }

pub returns : goal.returns
returns c =
    let t = c.args.self.now in
    let w = insert_done t.room.now t.len c.args.at c.args.b c.requires t.fits _ c.if-self.false c.lift.ensures in
    record { room_is = refl; long = w.long; writes = record { says = w } }
