use Rattle.std.proofs.Common.{cond, [], ◌++◌, refl, ◌∙◌, take, drop, arith, length-append, length-drop}
use lib.Seq.{length-take-le}
use Rattle.spec.specs.Bytes.{ascii}
use Rattle.marks.specs.Marked.{marked_with}
use Rattle.text.proofs.Texts.{as_full}
use Rattle.text.proofs.Writing.{done, full}
use Rattle.marks.proofs.Marking.{closed_full, end_size, end_at, end_fits, end_long, end_writes}
use Rattle.marks.proofs.emphasis.push_closed.Goals as goal

pub returns-then-text-size : goal.returns-then-text-size
returns-then-text-size c =
    let a = c.args in let t = a.text.now in let d = t.room.now in
    let end = a.marker.now ++ cond a.trail (ascii " ") [] in
    let s = end_size a.marker.now a.n a.trail in
    let x = length-append (take a.n (drop a.from d)) end in
    let y = length-take-le a.n (drop a.from d) (omega (arith, length-drop a.from d, c.requires.1.0)) in
    let z = length-append a.marker.now (cond a.trail (ascii " ") []) in
    as_full refl refl (closed_full d t.len a.marker.now (take a.n (drop a.from d) ++ end) a.lead t.fits (omega (arith, x, y, z, c.requires.1.1)) (omega (arith, x, y, s, c.if-text-size.true)))

pub returns-in_err-push_end_in : goal.returns-in_err-push_end_in
returns-in_err-push_end_in c =
    let a = c.args in let t = a.text.now in let d = t.room.now in
    let p = end_at a.marker.now a.trail d t.len a.from a.n (omega (arith, c.if-text-size.false)) t.fits c.requires.0.1 in
    absurd (end_fits p c.lift.ensures (full c.in_err-push_end_in.was c.push_end_in.ensures))

pub returns : goal.returns
returns c =
    let a = c.args in let t = a.text.now in let d = t.room.now in
    let p = end_at a.marker.now a.trail d t.len a.from a.n (omega (arith, c.if-text-size.false)) t.fits c.requires.0.1 in
    let w = done c.in_ok-push_end_in.was c.push_end_in.ensures in
    let v = c.push_done.ensures in
    record {
      room_is = v.room_is;
      long = v.long ∙ end_long p c.lift.ensures w;
      writes = end_writes p c.lift.ensures w (marked_with a.marker.now a.lead) v.writes;
    }
