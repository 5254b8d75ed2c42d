-- The node of a prefix is one of the nodes.
use Rattle.std.proofs.Common.{arith}
use Rattle.image_rules.proofs.covered.Tops.{node-within}
use Rattle.image_rules.proofs.leaves.see.Goals as goal

pub bounds-nodes-node : goal.bounds-nodes-node
bounds-nodes-node c =
    omega (arith, c.entries_of.ensures.is, node-within c.args.prefix.depth c.args.prefix.pattern c.args.greatest c.requires.depth c.requires.pattern)

pub bounds-nodes-node-2 : goal.bounds-nodes-node-2
bounds-nodes-node-2 c =
    omega (arith, c.entries_of.ensures.is, node-within c.args.prefix.depth c.args.prefix.pattern c.args.greatest c.requires.depth c.requires.pattern)

pub returns-clause-within : goal.returns-clause-within
returns-clause-within c = omega (arith, node-within c.args.prefix.depth c.args.prefix.pattern c.args.greatest c.requires.depth c.requires.pattern)
