use Rattle.std.proofs.Common.{◌≡◌, ℕ, ◌+◌, ◌-◌, sym, subst, arith}
use Rattle.std.specs.Prelude.{Some, None}
use Rattle.tree.specs.Attributes.{Valued, language_attr}
use Rattle.tree.specs.Represents.{attrs_behind}
use Rattle.spec.specs.Bytes.{Bytes}
use Rattle.tree.proofs.NodeFields.{holds_of_node}
use Rattle.elements.proofs.Languages.{Up, up_node, up_on, up_found, up_root, up_none}
use Rattle.elements.proofs.code_language.nearest_language.Goals as goal

pub returns-then-at-eq0 : goal.returns-then-at-eq0
returns-then-at-eq0 c = up_root c.loop.invariant c.if-at-eq0.true

pub field-requires : goal.field-requires
field-requires c = let n = up_node c.loop.invariant (omega arith) c.if-at-eq0.false in (n.readable.0, n.readable.1)

pub returns-in-Some : goal.returns-in-Some
returns-in-Some c =
    up_found c.loop.invariant (omega arith) c.if-at-eq0.false
    (holds_of_node (λ (s : Bytes) (p : ℕ). Valued s (Some c.in-Some.language) (language_attr (attrs_behind s p))) c.field.ensures c.in-Some.ensures)

pub node_parent-at-requires : goal.node_parent-at-requires
node_parent-at-requires c = (up_node c.loop.invariant (omega arith) c.if-at-eq0.false).readable.0

pub loop-preserved : goal.loop-preserved
loop-preserved c =
    let t = c.args.tree.now in
    let fewer : 4 - (c.loop.counter + 1) ≡ 4 - c.loop.counter - 1 = omega arith in
    rw fewer (subst (λ (k : ℕ). Up t.sheet.now t.nodes.now c.args.i k (4 - c.loop.counter - 1)) (sym c.node_parent-at.ensures)
    (up_on c.loop.invariant (omega arith) c.if-at-eq0.false
    (holds_of_node (λ (s : Bytes) (p : ℕ). Valued s None (language_attr (attrs_behind s p))) c.field.ensures c.in_default.ensures)))

pub returns : goal.returns
returns c = up_none c.loop.invariant (omega arith)
