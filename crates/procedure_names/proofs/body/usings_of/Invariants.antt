use Rattle.std.proofs.Common.{◌≡◌, ◌++◌, drop, map}
use Rattle.std.specs.Prelude.{flat_map}
use Rattle.declared_names.specs.binder.specs.Names.{usings}
use Rattle.said_parts.specs.View.{all_said}
use Rattle.procedure_names.specs.Using.{using_view}
use Rattle.procedure_names.proofs.body.usings_of.Given as goal

abbrev pub invariant-loop-next : goal.invariant-loop-next
invariant-loop-next l =
    map using_view l.usings.items ++ flat_map usings (all_said (drop l.next-index l.said)) ≡ flat_map usings (all_said l.said)
