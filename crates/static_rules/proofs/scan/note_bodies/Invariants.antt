use Rattle.std.proofs.Common.{◌≡◌, take}
use Rattle.static_rules.specs.Broken.{least_of}
use Rattle.static_rules.specs.Scan.{bodies_places}
use Rattle.static_rules.proofs.scan.note_bodies.Given as goal

abbrev pub invariant-loop-body : goal.invariant-loop-body
invariant-loop-body l = l.least ≡ least_of l.fn.least (bodies_places (take l.body-index l.bodies))
