use Rattle.std.proofs.Common.{refl}
use Rattle.text.proofs.Lifting.{lowered_full, lowered_done}
use Rattle.text.proofs.text.Text.push_lifted.Goals as goal

pub returns-then-base-self : goal.returns-then-base-self
returns-then-base-self c =
    let t = c.args.self.now in
    record {
      room_is = refl;
      long = refl;
      writes =
          record { says = lowered_full t.room.now t.len c.args.base c.args.in_being c.requires.0 c.requires.1 c.if-base-self.true };
    }

pub returns : goal.returns
returns c =
    let t = c.args.self.now in
    let w =
    lowered_done t.room.now t.len c.args.base c.args.in_being c.requires.0 c.requires.1 c.drop_front.new.text c.drop_front.ensures.1 c.if-base-self.false c.drop_front.ensures.0 in
    record { room_is = refl; long = w.long; writes = record { says = w } }
