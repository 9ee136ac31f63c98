use Rattle.std.proofs.Common.{◌≡◌, ◌++◌, drop, map}
use Rattle.constant_values.specs.declared_names.specs.binder.specs.Declarations.{Local}
use Rattle.constant_values.specs.declared_names.specs.View.{local_view}
use Rattle.name_rules.proofs.names_of.names_of_locals.Given as goal

abbrev pub invariant-loop-local : goal.invariant-loop-local
invariant-loop-local l =
    map (λ x. x.now) l.names.items ++ map (λ (m : Local). m.name) (map local_view (drop l.local-index l.locals))
    ≡ map (λ (m : Local). m.name) (map local_view l.locals)
