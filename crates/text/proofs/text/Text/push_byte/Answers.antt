use Rattle.std.proofs.Common.{[], ◌∷◌, refl, arith}
use Rattle.text.proofs.Pushing.{byte_done}
use Rattle.text.proofs.Texts.{full_for}
use Rattle.text.proofs.text.Text.push_byte.Goals as goal

pub returns-then-self : goal.returns-then-self
returns-then-self c = full_for (c.args.b ∷ []) (omega (arith, c.if-self.true))

pub returns : goal.returns
returns c =
    let a = c.args.self.now in
    let w = byte_done a.room.now c.args.b a.len (omega (arith, a.fits, c.if-self.false)) in
    record { room_is = refl; long = w.long; writes = record { says = w } }
