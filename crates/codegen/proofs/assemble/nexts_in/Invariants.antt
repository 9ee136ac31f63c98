use Rattle.std.proofs.Common.{◌≡◌, take}
use Rattle.codegen.specs.Emission.{lists_of}
use Rattle.codegen.specs.Parts.{nexts_in}
use Rattle.codegen.proofs.assemble.nexts_in.Given as goal

abbrev pub invariant-loop-body : goal.invariant-loop-body
invariant-loop-body l = lists_of l.all.items ≡ nexts_in (take l.body-index l.bodies)
