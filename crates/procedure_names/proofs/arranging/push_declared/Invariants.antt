use Rattle.std.proofs.Common.{◌≡◌, ◌++◌, drop, map}
use Rattle.declared_names.specs.binder.specs.Names.{declared_here}
use Rattle.declared_names.specs.View.{local_view}
use Rattle.procedure_names.specs.Using.{using_view}
use Rattle.procedure_names.proofs.arranging.push_declared.Given as goal

abbrev pub invariant-loop-found : goal.invariant-loop-found
invariant-loop-found l =
    map local_view l.locals.items ++ declared_here (map using_view (drop l.found-index l.usings)) ≡ map local_view l.fn.locals.items ++ declared_here (map using_view l.usings)
