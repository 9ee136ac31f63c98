use Rattle.std.proofs.Common.{◌≡◌, length, map}
use Rattle.std.specs.List.{list_all}
use Rattle.vba_module.specs.Headers.{all_of, items_of}
use Rattle.vba_tree.specs.View.{listed_view, variable_view}
use Rattle.bound_names.specs.bound_members.specs.bound_calls.specs.bound_forms.specs.Bind.{is_built_variable}
use Rattle.bound_names.specs.bound_members.specs.bound_calls.specs.bound_declarations.specs.constant_values.specs.declared_names.specs.View.{scope_view}
use Rattle.bind_project.proofs.built_declarations.are_built_variables.Given as goal

abbrev pub invariant-variables : goal.invariant-variables
invariant-variables l =
    list_all (is_built_variable (scope_view l.scope) l.is_open) (items_of (map (λ next. (next.mark, variable_view next.item)) l.left))
    ≡ list_all (is_built_variable (scope_view l.scope) l.is_open) (all_of (listed_view variable_view l.list))

abbrev pub decreases-variables : goal.decreases-variables
decreases-variables l = length l.left
