use Prim.Native.Nat.{◌≤◌}
use mathlib.Core.Path.{◌≡◌, sym, ◌∙◌}
use lib.ListN.{get_or}
use Rattle.spec.specs.Questions.{open_after}
use Rattle.input.proofs.Sounding.{begun, field_bytes, opened, level, on, empty_close, on_close, sound_if}
use native.Mathlib.Omega.{arith}
use Rattle.input.proofs.sound.count_of_short.Goals as goal
use Rattle.input.proofs.sound.count_of_short.Goals.{then-tag-eq-OPEN+else-depth-ge-MAX_OPEN, else-tag-eq-OPEN}

pub loop-p-init : goal.loop-p-init
loop-p-init c = begun _ (omega arith)

pub overflow_sub-depth : goal.overflow_sub-depth
overflow_sub-depth c =
    let l = c.loop-p in let n = c.length_at-n.result in
    omega (arith, (empty_close l.before l.depth n (sym c.is_sound_close.ensures ∙ c.if-not-is_sound_close.false)).1)

pub loop-p-preserved-then-tag-eq-CLOSE : goal.loop-p-preserved-then-tag-eq-CLOSE
loop-p-preserved-then-tag-eq-CLOSE c =
    let s = c.args.s.now in
    let l = c.loop-p in let n = c.length_at-n in
    on_close s l.p n.result l.before l.depth l.count (omega arith) n.ensures.0 c.if-tag-eq-CLOSE.true
    (sym c.is_sound_close.ensures ∙ c.if-not-is_sound_close.false) l.invariant

pub loop-p-preserved : goal.loop-p-preserved
loop-p-preserved c =
    let s = c.args.s.now in
    let l = c.loop-p in
    let n = c.length_at-n in let d = c.if-tag-eq-OPEN.depth in
    let o : (d ≡ open_after l.depth (get_or s l.p 0)) × (d ≤ 100) =
    elim c.if-tag-eq-OPEN.branch [
      | then-tag-eq-OPEN+else-depth-ge-MAX_OPEN w ↦ opened l.depth _ d w.if-tag-eq-OPEN.true (omega arith) (omega arith)
      | else-tag-eq-OPEN w ↦ level l.depth _ d w.if-tag-eq-OPEN.false c.if-tag-eq-CLOSE.false (omega arith) (omega arith)
    ] in
    on s l.p n.result l.before l.depth l.count (omega arith) n.ensures.0 (omega arith) l.invariant
    (field_bytes l.before l.depth s l.p n.result c.is_sound.result (omega arith) (c.is_sound.ensures l.depth) ∙ c.if-not-is_sound.false)
    d c.count_after-count.result o.0 o.1 c.count_after-count.ensures.0 c.count_after-count.ensures.1

pub returns : goal.returns
returns c =
    let l = c.loop-p in
    sound_if c.args.s.now l.p l.before l.depth l.count c.count_at_end.result (omega arith) l.invariant c.count_at_end.ensures
