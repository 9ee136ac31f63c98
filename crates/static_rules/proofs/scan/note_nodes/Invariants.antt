use Rattle.std.proofs.Common.{◌≡◌, take}
use Rattle.static_rules.specs.Broken.{least_of}
use Rattle.static_rules.specs.Scan.{nodes_places}
use Rattle.static_rules.proofs.scan.note_nodes.Given as goal

abbrev pub invariant-loop-node : goal.invariant-loop-node
invariant-loop-node l = l.least ≡ least_of l.fn.least (nodes_places l.selected (take l.node-index l.nodes))
