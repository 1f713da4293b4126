use Prim.Native.Nat.{◌≤◌}
use lib.IntN.{ℤ}
use mathlib.Core.Path.{◌≡◌, sym, ap, ◌∙◌}
use mathlib.Core.Bool.{Bool, ◌||◌, ◌&&◌}
use lib.ListN.{get_or}
use lib.Dec.{eqb}
use Rattle.lists_links.specs.Url.{next_balance}
use Rattle.lists_links.proofs.Balance.{sign, bits, balanced_grown}
use Rattle.lists_links.proofs.Linking.{wraps, wraps_on, wraps_end, balanced}
use mir.Val.{of_z}
use mir.Facts.{of_z-to_z}
use mir.Syntax.{w32}
use native.Mathlib.Omega.{arith}
use Rattle.lists_links.proofs.url.needs_wrap.Goals as goal

pub returns-then-wants_wrap : goal.returns-then-wants_wrap
returns-then-wants_wrap c =
    let l = c.loop-b in
    let d = c.args.dest.now in
    let n = l.invariant.0 in
    let closes = eqb (get_or d l.b-index 0) 41 && eqb n 0 in
    sym (l.invariant.1.2 ∙ wraps d n l.b-index c.loop-b-test.true (ap (λ (t : Bool). t || closes) (sym c.wants_wrap.ensures ∙ c.if-wants_wrap.true)))

pub returns-then-balance-lt0 : goal.returns-then-balance-lt0
returns-then-balance-lt0 c =
    let l = c.loop-b in
    let d = c.args.dest.now in
    let b = get_or d l.b-index 0 in
    let n = l.invariant.0 in
    let h : n ≤ 1048576 = omega (arith, l.invariant.1.1, c.loop-b-test.true, c.requires) in
    let closes = eqb b 41 && eqb n 0 in
    let e = ap (λ (t : Bool). t || closes) (sym c.wants_wrap.ensures ∙ c.if-wants_wrap.false) in
    let q = c.next_balance-balance.ensures ∙ ap (λ (z : ℤ). next_balance z b) l.invariant.1.0 in
    let s = sym (sign n b h q) in
    sym (l.invariant.1.2 ∙ wraps d n l.b-index c.loop-b-test.true (e ∙ s ∙ c.if-balance-lt0.true))

pub loop-b-preserved : goal.loop-b-preserved
loop-b-preserved c =
    let l = c.loop-b in
    let d = c.args.dest.now in
    let b = get_or d l.b-index 0 in
    let n = l.invariant.0 in
    let h : n ≤ 1048576 = omega (arith, l.invariant.1.1, c.loop-b-test.true, c.requires) in
    let closes = eqb b 41 && eqb n 0 in
    let e = ap (λ (t : Bool). t || closes) (sym c.wants_wrap.ensures ∙ c.if-wants_wrap.false) in
    let q = c.next_balance-balance.ensures ∙ ap (λ (z : ℤ). next_balance z b) l.invariant.1.0 in
    let s = sym (sign n b h q) in (
      balanced n b,
      (
        bits n b h q (s ∙ c.if-balance-lt0.false),
        omega (arith, balanced_grown n b, l.invariant.1.1),
        l.invariant.1.2 ∙ wraps_on d n l.b-index c.loop-b-test.true (e ∙ s ∙ c.if-balance-lt0.false),
      ),
    )

pub returns : goal.returns
returns c =
    let l = c.loop-b in
    let e : l.balance-bits ≡ l.invariant.0 = sym (of_z-to_z l.auto.balance-fits) ∙ ap (of_z w32) l.invariant.1.0 in
    rw e (sym (l.invariant.1.2 ∙ wraps_end c.args.dest.now l.invariant.0 l.b-index c.loop-b-test.false))
