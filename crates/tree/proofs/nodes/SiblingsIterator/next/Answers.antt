use Rattle.std.proofs.Common.{rules}
use native.Mathlib.Omega.{arith}
use Rattle.tree.proofs.Walking.{node_inside, node_later, nodes_behind}
use Rattle.tree.proofs.nodes.SiblingsIterator.next.Goals as goal

pub node_end-self-requires : goal.node_end-self-requires
node_end-self-requires c = node_inside c.args.self.now.tree.sheet.now c.args.self.now.tree.nodes.now (omega arith) c.args.self.now.stand

pub invariant_of-self : goal.invariant_of-self
invariant_of-self c = record { stand = nodes_behind c.args.self.now.tree.sheet.now c.args.self.now.tree.nodes.now (omega arith) c.args.self.now.stand c.node_end-self.ensures }

pub returns-clause-goes : goal.returns-clause-goes
returns-clause-goes c =
    let l = node_later c.args.self.now.tree.sheet.now c.args.self.now.tree.nodes.now (omega arith) c.args.self.now.stand in let q = c.node_end-self.ensures in search rules
