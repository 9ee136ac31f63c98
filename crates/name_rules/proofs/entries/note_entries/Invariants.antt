use Rattle.std.proofs.Common.{◌≡◌, false, drop, map}
use Rattle.std.specs.Prelude.{flat_map}
use Rattle.constant_values.specs.declared_names.specs.binder.specs.Declarations as plain
use Rattle.constant_values.specs.declared_names.specs.binder.specs.Said.{entry_said}
use Rattle.constant_values.specs.declared_names.specs.binder.specs.Violations.{names_said, twice_inside, types_said}
use Rattle.constant_values.specs.declared_names.specs.View.{entry_view, scope_view}
use Rattle.use_rules.specs.Found.{noted}
use Rattle.name_rules.proofs.entries.note_entries.Given as goal

abbrev pub invariant-loop-entry : goal.invariant-loop-entry
invariant-loop-entry l = record {
  twice : noted 15 l.found.twice (flat_map (twice_inside (scope_view l.scope)) (map entry_view (drop l.entry-index l.entries)))
      ≡ noted 15 l.fn.found.twice (flat_map (twice_inside (scope_view l.scope)) (map entry_view l.entries));
  types : noted 16 l.found.types (flat_map (λ (e : plain.Entry). flat_map (types_said (scope_view l.scope)) (entry_said e.what)) (map entry_view (drop l.entry-index l.entries)))
      ≡ noted 16 l.fn.found.types (flat_map (λ (e : plain.Entry). flat_map (types_said (scope_view l.scope)) (entry_said e.what)) (map entry_view l.entries));
  names : noted 17 l.found.names (flat_map (λ (e : plain.Entry). flat_map (names_said (scope_view l.scope) false) (entry_said e.what)) (map entry_view (drop l.entry-index l.entries)))
      ≡ noted 17 l.fn.found.names (flat_map (λ (e : plain.Entry). flat_map (names_said (scope_view l.scope) false) (entry_said e.what)) (map entry_view l.entries));
}
