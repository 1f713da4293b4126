use Rattle.std.proofs.Common.{Bool, List, ℕ, cond, ◌≡◌, ◌||◌, true, false, ap, sym, refl, subst, take, arith}
use lib.Seq.{length-take-le}
use Rattle.spec.specs.Bytes.{null}
use Rattle.spec.specs.Out.{Step, push, keep}
use Rattle.spec.specs.Md.TextUtils.{trim_trailing_space, trim_blanks}
use Rattle.spec.specs.Md.Elements.Table.{add_cell_block_break, ends_with_cell_break}
use Rattle.input.proofs.Rules.{null_length}
use Rattle.text.specs.Trimmed.{Trimmed}
use Rattle.text.proofs.Texts.{as_step, as_done, kept, next}
use Rattle.text.proofs.Spaces.{cut_done}
use Rattle.marks.proofs.table.add_cell_block_break.Goals as goal

pub returns-then-text-ends_with_cell_break : goal.returns-then-text-ends_with_cell_break
unfolding add_cell_block_break trim_trailing_space
returns-then-text-ends_with_cell_break c =
    let t = c.args.text.now in let lb = c.args.linebreak.now in let n = c.trim_trailing_space-text.result in
    let u = take n t.room.now in
    let cut = subst (λ (s : List ℕ). Trimmed s n (trim_blanks s)) c.bytes.ensures c.trim_trailing_space-text.ensures in
    let behind : Step = λ u. cond (null u || ends_with_cell_break u) (keep u) (push lb u) in
    let none : null u || ends_with_cell_break u ≡ true =
    rw (null_length u, length-take-le n t.room.now (omega (arith, t.fits, cut.within, length-take-le t.len t.room.now t.fits)), ap ends_with_cell_break (sym c.bytes-2.ensures), sym c.ends_with_cell_break.ensures) c.if-text-ends_with_cell_break.true in
    next refl (as_done {f = trim_trailing_space} refl (cut_done trim_blanks t.room.now t.len n t.fits cut)) (as_step {g = behind} (ap (λ (b : Bool). cond b (keep u) (push lb u)) none) (kept _))

pub returns : goal.returns
unfolding add_cell_block_break trim_trailing_space
returns c =
    let t = c.args.text.now in let lb = c.args.linebreak.now in let n = c.trim_trailing_space-text.result in
    let u = take n t.room.now in
    let cut = subst (λ (s : List ℕ). Trimmed s n (trim_blanks s)) c.bytes.ensures c.trim_trailing_space-text.ensures in
    let behind : Step = λ u. cond (null u || ends_with_cell_break u) (keep u) (push lb u) in
    let some : null u || ends_with_cell_break u ≡ false =
    rw (null_length u, length-take-le n t.room.now (omega (arith, t.fits, cut.within, length-take-le t.len t.room.now t.fits)), ap ends_with_cell_break (sym c.bytes-2.ensures), sym c.ends_with_cell_break.ensures) c.if-text-ends_with_cell_break.false in
    next refl (as_done {f = trim_trailing_space} refl (cut_done trim_blanks t.room.now t.len n t.fits cut)) (as_step {g = behind} (ap (λ (b : Bool). cond b (keep u) (push lb u)) some) c.push_all.ensures)
