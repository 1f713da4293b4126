use mathlib.Core.Path.{◌≡◌, refl, sym, ◌∙◌, subst}
use lib.ListN.{length}
use Rattle.spec.specs.Questions.{node_count}
use Rattle.tree.specs.Kinds.{Storable}
use Rattle.tree.proofs.Numbers.{stored_word}
use Rattle.tree.proofs.Stages.{fits_field, stored_on, fits_close, stored_close, stored_none, all_counted, finished}
use native.Mathlib.Omega.{arith}
use Rattle.tree.proofs.store.store_rest.Goals as goal

pub loop-p-init : goal.loop-p-init
loop-p-init c =
    let a = c.args in
    (omega arith, refl, stored_none a.sheet.now a.nodes.now c.requires.0 c.requires.1)

pub close_node-cur-requires : goal.close_node-cur-requires
close_node-cur-requires c =
    let a = c.args in let l = c.loop-p in
    let room : Storable a.sheet.now (length l.nodes) = subst (Storable a.sheet.now) (sym l.invariant.1) c.requires.0 in
    fits_close a.sheet.now l.nodes l.p l.count l.cur l.invariant.2 (omega arith) room c.if-tag-eq-CLOSE.true

pub loop-p-preserved-then-tag-eq-CLOSE : goal.loop-p-preserved-then-tag-eq-CLOSE
loop-p-preserved-then-tag-eq-CLOSE c =
    let a = c.args in let l = c.loop-p in
    let room : Storable a.sheet.now (length l.nodes) = subst (Storable a.sheet.now) (sym l.invariant.1) c.requires.0 in
    let f = c.close_node-cur in (
      omega arith,
      f.auto.ns ∙ l.invariant.1,
      stored_close a.sheet.now l.nodes l.p l.count l.cur l.invariant.2 (omega arith) room c.if-tag-eq-CLOSE.true _ f.result f.ensures.0 f.ensures.1,
    )

pub store_field-t-requires : goal.store_field-t-requires
store_field-t-requires c =
    let a = c.args in let l = c.loop-p in
    let room : Storable a.sheet.now (length l.nodes) = subst (Storable a.sheet.now) (sym l.invariant.1) c.requires.0 in
    (c.entry_of-entry.ensures.1, fits_field a.sheet.now l.nodes l.p l.count l.cur l.invariant.2 (omega arith) room, c.if-tag-eq-CLOSE.false)

pub loop-p-preserved : goal.loop-p-preserved
loop-p-preserved c =
    let a = c.args in let l = c.loop-p in
    let room : Storable a.sheet.now (length l.nodes) = subst (Storable a.sheet.now) (sym l.invariant.1) c.requires.0 in
    let f = c.store_field-t in let e = c.entry_of-entry in let n = c.length_at-n in (
      omega (arith, n.ensures.1),
      f.auto.ns ∙ l.invariant.1,
      stored_on a.sheet.now l.nodes l.p l.count l.cur l.invariant.2 (omega arith) room n.result e.result n.ensures.0 e.ensures.0 _ f.result f.ensures,
    )

pub store-requires : goal.store-requires
store-requires c =
    let a = c.args in let l = c.loop-p in
    let n : l.count ≡ node_count a.sheet.now = all_counted a.sheet.now l.nodes l.p l.count l.cur l.invariant.2 (omega arith) in
    (omega (arith, n, l.invariant.1, l.invariant.2.1.below, c.requires.0.room_for), omega arith, omega (arith, n, c.requires.0.few))

pub returns : goal.returns
returns c =
    let a = c.args in let l = c.loop-p in
    let room : Storable a.sheet.now (length l.nodes) = subst (Storable a.sheet.now) (sym l.invariant.1) c.requires.0 in
    finished a.sheet.now l.nodes l.p l.count l.cur l.invariant.2 (omega arith) (stored_word c.store.ensures) room
