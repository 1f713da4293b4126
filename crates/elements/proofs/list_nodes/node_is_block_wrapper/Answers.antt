use mathlib.Core.Path.{◌≡◌, sym, ap, ◌∙◌}
use mathlib.Core.Bool.{true, false}
use Rattle.spec.specs.Tree.{kids_of}
use Rattle.spec.specs.Md.Elements.List.{name_of, has_blocks, is_block_wrapper, node_is_block_wrapper}
use Rattle.tree.proofs.Firsts.{first}
use Rattle.tree.proofs.Kin.{first_name}
use Rattle.nodes.proofs.Tests.{wrapper_range}
use Rattle.nodes.proofs.Siblings.{its_node, its_kids}
use native.Mathlib.Omega.{arith}
use Rattle.elements.proofs.list_nodes.node_is_block_wrapper.Goals as goal

pub node_name-name-requires : goal.node_name-name-requires
node_name-name-requires c =
    its_node c.args.tree.now.sheet.now c.args.tree.now.nodes.now c.requires.2.0 c.args.i c.requires.0 c.requires.2.1 c.requires.2.2 c.requires.1

pub node_end-to-requires : goal.node_end-to-requires
node_end-to-requires c =
    (its_node c.args.tree.now.sheet.now c.args.tree.now.nodes.now c.requires.2.0 c.args.i c.requires.0 c.requires.2.1 c.requires.2.2 c.requires.1).inside

pub overflow_add-i : goal.overflow_add-i
overflow_add-i c =
    omega (arith, (first c.args.tree.now.sheet.now c.args.tree.now.nodes.now c.requires.2.0 c.args.i c.requires.0 c.requires.2.1 c.requires.2.2 c.requires.1).later, c.node_end-to.ensures)

pub overflow_add-i-then-has_blocks : goal.overflow_add-i-then-has_blocks
overflow_add-i-then-has_blocks c =
    omega (arith, (first c.args.tree.now.sheet.now c.args.tree.now.nodes.now c.requires.2.0 c.args.i c.requires.0 c.requires.2.1 c.requires.2.2 c.requires.1).later, c.node_end-to.ensures)

pub has_blocks-requires : goal.has_blocks-requires
has_blocks-requires c =
    (c.args.i, kids_of c.requires.2.1, its_kids c.args.tree.now.sheet.now c.args.tree.now.nodes.now c.requires.2.0 c.args.i c.requires.0 c.requires.2.1 c.requires.2.2 c.requires.1 c.node_end-to.ensures)

pub only_blocks-requires : goal.only_blocks-requires
only_blocks-requires c =
    (c.args.i, kids_of c.requires.2.1, its_kids c.args.tree.now.sheet.now c.args.tree.now.nodes.now c.requires.2.0 c.args.i c.requires.0 c.requires.2.1 c.requires.2.2 c.requires.1 c.node_end-to.ensures)

pub returns-then-not-name : goal.returns-then-not-name
unfolding node_is_block_wrapper
returns-then-not-name c =
    λ parent e f h l.
    let w : is_block_wrapper (name_of f) ≡ false = sym (wrapper_range _ ∙ ap is_block_wrapper (c.node_name-name.ensures ∙ first_name c.args.tree.now.sheet.now c.args.tree.now.nodes.now parent c.args.i e f h l)) ∙ c.if-not-name.true in
    rw w

pub returns-else-has_blocks : goal.returns-else-has_blocks
unfolding node_is_block_wrapper
returns-else-has_blocks c =
    λ parent e f h l.
    let w : is_block_wrapper (name_of f) ≡ true = sym (wrapper_range _ ∙ ap is_block_wrapper (c.node_name-name.ensures ∙ first_name c.args.tree.now.sheet.now c.args.tree.now.nodes.now parent c.args.i e f h l)) ∙ c.if-not-name.false in
    let b : has_blocks (kids_of f) ≡ false = sym (c.has_blocks.ensures c.args.i (kids_of f) (its_kids c.args.tree.now.sheet.now c.args.tree.now.nodes.now parent c.args.i e f h l c.node_end-to.ensures)) ∙ c.if-has_blocks.false in
    let z : false ≡ node_is_block_wrapper (name_of f) (kids_of f) = rw (w, b) in
    c.if-has_blocks.false ∙ z

pub returns-then-has_blocks : goal.returns-then-has_blocks
unfolding node_is_block_wrapper
returns-then-has_blocks c =
    λ parent e f h l.
    let k = its_kids c.args.tree.now.sheet.now c.args.tree.now.nodes.now parent c.args.i e f h l c.node_end-to.ensures in
    let w : is_block_wrapper (name_of f) ≡ true = sym (wrapper_range _ ∙ ap is_block_wrapper (c.node_name-name.ensures ∙ first_name c.args.tree.now.sheet.now c.args.tree.now.nodes.now parent c.args.i e f h l)) ∙ c.if-not-name.false in
    let b : has_blocks (kids_of f) ≡ true = sym (c.has_blocks.ensures c.args.i (kids_of f) k) ∙ c.if-has_blocks.true in
    rw (w, b) (c.only_blocks.ensures c.args.i (kids_of f) k)
