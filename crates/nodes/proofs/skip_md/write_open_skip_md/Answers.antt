use Prim.Native.Nat.{ℕ}
use mathlib.Core.Path.{ap, sym}
use Rattle.spec.specs.Call.{tags_to_skip}
use Rattle.spec.specs.Out.{and_then}
use Rattle.spec.specs.Md.Elements.Code.{write_skip_md, close_skip_md}
use Rattle.input.specs.Scans.{skip_of}
use Rattle.text.specs.Texts.{bytes}
use Rattle.text.proofs.Texts.{as_step}
use Rattle.nodes.proofs.Interrupts.{element_name}
use Rattle.nodes.proofs.Spots.{inside_node, going_start, going_inside, going_on, going_stop, going_end, going_less}
use Rattle.nodes.proofs.skip_md.write_open_skip_md.Goals as goal

pub loop-open-init : goal.loop-open-init
loop-open-init c =
    λ kids h. going_start (tags_to_skip (skip_of c.args.skip)) c.args.opts c.args.text.now c.requires.3 kids h

pub write_spot-requires : goal.write_spot-requires
write_spot-requires c =
    let x = c.requires in
    let g = c.loop-open.invariant x.2 x.3.kids_are in
    let k = going_inside g c.loop-open-test.true in
    (k.this.node, inside_node k)

pub next_spot-next-requires : goal.next_spot-next-requires
next_spot-next-requires c =
    let x = c.requires in
    let k = going_inside (c.loop-open.invariant x.2 x.3.kids_are) c.loop-open-test.true in
    (k.this.node, inside_node k)

pub returns-in_err-write_spot : goal.returns-in_err-write_spot
returns-in_err-write_spot c =
    let t = bytes c.args.text.now in
    λ name attrs kids x. as_step (ap (λ (k : ℕ). and_then (write_skip_md (tags_to_skip (skip_of c.args.skip)) c.args.opts kids t) (close_skip_md k)) (sym (element_name x)))
    (going_stop (c.loop-open.invariant kids x.kids_are) c.loop-open-test.true c.write_spot.ensures c.in_err-write_spot.was c.from_residual.ensures.0)

pub loop-open-smaller : goal.loop-open-smaller
loop-open-smaller c =
    let x = c.requires in
    going_less (c.loop-open.invariant x.2 x.3.kids_are) c.loop-open-test.true c.next_spot-next.ensures

pub loop-open-preserved : goal.loop-open-preserved
loop-open-preserved c =
    λ kids h. going_on (c.loop-open.invariant kids h) c.loop-open-test.true c.write_spot.ensures c.in_ok-write_spot.was c.next_spot-next.ensures

pub returns : goal.returns
returns c =
    let t = bytes c.args.text.now in
    λ name attrs kids x. as_step (ap (λ (k : ℕ). and_then (write_skip_md (tags_to_skip (skip_of c.args.skip)) c.args.opts kids t) (close_skip_md k)) (sym (element_name x)))
    (going_end (c.loop-open.invariant kids x.kids_are) c.loop-open-test.false)
