use Rattle.std.proofs.Common.{◌≡◌, take}
use Rattle.static_rules.specs.Broken.{least_of}
use Rattle.static_rules.specs.Scan.{statements_places}
use Rattle.static_rules.proofs.scan.note_statements.Given as goal

abbrev pub invariant-loop-statement : goal.invariant-loop-statement
invariant-loop-statement l = l.least ≡ least_of l.fn.least (statements_places l.nodes (take l.statement-index l.statements))
