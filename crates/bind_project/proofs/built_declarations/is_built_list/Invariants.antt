use Rattle.std.proofs.Common.{◌≡◌, length, map}
use Rattle.std.specs.List.{list_all}
use Rattle.vba_module.specs.Headers.{all_of, items_of}
use Rattle.vba_tree.specs.View.{listed_view, parameter_view}
use Rattle.bound_names.specs.bound_members.specs.bound_calls.specs.bound_forms.specs.Bind.{is_built_parameter}
use Rattle.bound_names.specs.bound_members.specs.bound_calls.specs.bound_declarations.specs.constant_values.specs.declared_names.specs.View.{scope_view}
use Rattle.bind_project.proofs.built_declarations.is_built_list.Given as goal

abbrev pub invariant-parameters : goal.invariant-parameters
invariant-parameters l =
    list_all (is_built_parameter (scope_view l.scope)) (items_of (map (λ next. (next.mark, parameter_view next.item)) l.left))
    ≡ list_all (is_built_parameter (scope_view l.scope)) (all_of (listed_view parameter_view l.list))

abbrev pub decreases-parameters : goal.decreases-parameters
decreases-parameters l = length l.left
