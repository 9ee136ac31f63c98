use Rattle.std.proofs.Common.{◌≡◌, drop}
use Rattle.statement_terms.specs.Heights.{height_of}
use Rattle.statement_terms.proofs.trees.adds_one.Given as goal

abbrev pub invariant-loop-node : goal.invariant-loop-node
invariant-loop-node l = height_of (drop l.node-index l.nodes) l.height ≡ height_of l.nodes 0
