use Rattle.std.proofs.Common.{◌≡◌, ◌++◌, length, map}
use Rattle.vba_module.specs.Headers.{all_of, items_of}
use Rattle.vba_tree.specs.View.{listed_view, parameter_view}
use Rattle.declared_names.specs.Names.{parameter_names}
use Rattle.declared_names.specs.View.{local_view}
use Rattle.declared_names.proofs.header.push_parameters.Given as goal

abbrev pub invariant-parameters : goal.invariant-parameters
invariant-parameters l =
    map local_view l.locals.items ++ parameter_names (items_of (map (λ next. (next.mark, parameter_view next.item)) l.left))
    ≡ map local_view l.fn.locals.items ++ parameter_names (all_of (listed_view parameter_view l.parameters))

abbrev pub decreases-parameters : goal.decreases-parameters
decreases-parameters l = length l.left
