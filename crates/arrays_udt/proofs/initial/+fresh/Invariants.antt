use Rattle.std.proofs.Common.{◌≡◌, ◌+◌, ◌*◌, ◌++◌, length, map, replicate, take}
use Rattle.vba_values.specs.Types.{declared}
use Rattle.vba_values.specs.View.{view}
use Rattle.arrays_udt.specs.Fields.{field_of, types_of}
use Rattle.arrays_udt.specs.Fresh.{field_by, initial_by, udt_within}
use Rattle.arrays_udt.proofs.initial.+fresh.Given as goal

abbrev pub decreases-fresh_within : goal.decreases-fresh_within
decreases-fresh_within l = 6 * l.depth + 1

abbrev pub decreases-fresh_udt : goal.decreases-fresh_udt
decreases-fresh_udt l = 6 * l.depth

abbrev pub decreases-fresh_fields : goal.decreases-fresh_fields
decreases-fresh_fields l = 6 * l.depth + 5

abbrev pub decreases-fresh_field : goal.decreases-fresh_field
decreases-fresh_field l = 6 * l.depth + 4

abbrev pub decreases-filled_within : goal.decreases-filled_within
decreases-filled_within l = 6 * l.depth + 3

abbrev pub decreases-push_fresh : goal.decreases-push_fresh
decreases-push_fresh l = 6 * l.depth + 2

abbrev pub invariant-fresh_fields-loop-field : goal.invariant-fresh_fields-loop-field
invariant-fresh_fields-loop-field l = map view l.values.items ≡ map (field_by (udt_within l.depth (types_of l.types.items))) (map field_of (take l.field-index l.field-items))

abbrev pub invariant-push_fresh-loop : goal.invariant-push_fresh-loop
invariant-push_fresh-loop l = record {
  front : take (length l.initial.items.items) l.items.items ≡ l.initial.items.items;
  added : map view l.items.items ≡ map view l.initial.items.items ++ replicate l.counter (initial_by (udt_within l.depth (types_of l.types.items)) (declared l.of));
}
