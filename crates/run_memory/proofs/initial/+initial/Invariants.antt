use Rattle.std.proofs.Common.{◌≡◌, ◌+◌, ◌*◌, map, replicate, take}
use Rattle.vba_values.specs.View.{view}
use Rattle.arrays_udt.specs.Fresh.{field_by, initial_by, udt_within}
use Rattle.bound_project.specs.Project.{field_of, types_of}
use Rattle.bound_project.specs.View.{declaration_view, declarations_view, element_view}
use Rattle.run_memory.proofs.initial.+initial.Given as goal

abbrev pub decreases-type_value : goal.decreases-type_value
decreases-type_value l = 8 * l.depth + 1

abbrev pub decreases-udt_value : goal.decreases-udt_value
decreases-udt_value l = 8 * l.depth

abbrev pub decreases-element_within : goal.decreases-element_within
decreases-element_within l = 8 * l.depth + 2

abbrev pub decreases-type_within : goal.decreases-type_within
decreases-type_within l = 8 * l.depth + 3

abbrev pub decreases-filled_within : goal.decreases-filled_within
decreases-filled_within l = 8 * l.depth + 4

abbrev pub decreases-first_within : goal.decreases-first_within
decreases-first_within l = 8 * l.depth + 5

abbrev pub decreases-firsts_within : goal.decreases-firsts_within
decreases-firsts_within l = 8 * l.depth + 6

abbrev pub invariant-firsts_within-loop-variable : goal.invariant-firsts_within-loop-variable
invariant-firsts_within-loop-variable l =
    map view l.values.items ≡ map (field_by (udt_within l.depth (types_of (declarations_view l.declared)))) (map field_of (map declaration_view (take l.variable-index l.variables)))

abbrev pub invariant-filled_within-loop : goal.invariant-filled_within-loop
invariant-filled_within-loop l = map view l.items.items ≡ replicate l.counter (initial_by (udt_within l.depth (types_of (declarations_view l.declared))) (element_view l.element))
