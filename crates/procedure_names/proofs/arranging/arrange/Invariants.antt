use Rattle.std.proofs.Common.{◌≡◌, [], ◌++◌, drop, map}
use Rattle.std.specs.Prelude.{reverse}
use Rattle.declared_names.specs.binder.specs.Names.{arranged}
use Rattle.declared_names.specs.View.{local_view, scope_view}
use Rattle.procedure_names.specs.Added.{known_in}
use Rattle.procedure_names.specs.Using.{using_view}
use Rattle.procedure_names.proofs.arranging.arrange.Given as goal

abbrev pub invariant-loop-found : goal.invariant-loop-found
invariant-loop-found l =
    map local_view l.locals.items
    ++ arranged l.is_static (known_in (scope_view l.scope)) (map using_view l.usings) (reverse (map local_view l.locals.items)) (map using_view (drop l.found-index l.usings))
    ≡ arranged l.is_static (known_in (scope_view l.scope)) (map using_view l.usings) [] (map using_view l.usings)
