use Rattle.std.proofs.Common.{◌≡◌, ◌++◌, drop, map}
use Rattle.declared_names.specs.binder.specs.Names.{uses_of}
use Rattle.procedure_names.specs.Used.{used_view}
use Rattle.procedure_names.specs.Using.{using_view}
use Rattle.procedure_names.proofs.using.push_used.Given as goal

abbrev pub invariant-loop-used : goal.invariant-loop-used
invariant-loop-used l =
    map using_view l.usings.items ++ uses_of (map used_view (drop l.used-index l.names)) ≡ map using_view l.fn.usings.items ++ uses_of (map used_view l.names)
