use Rattle.std.proofs.Common.{false}
use Rattle.std.specs.Prelude.{flat_map}
use Rattle.constant_values.specs.declared_names.specs.binder.specs.Declarations as plain
use Rattle.constant_values.specs.declared_names.specs.binder.specs.Said.{entry_said}
use Rattle.constant_values.specs.declared_names.specs.binder.specs.Violations.{names_said, twice_inside, types_said}
use Rattle.constant_values.specs.declared_names.specs.View.{entry_view, scope_view}
use Rattle.name_rules.proofs.Gathered.{item_noted}
use Rattle.name_rules.proofs.entries.note_entries.Goals as goal

pub loop-entry-preserved : goal.loop-entry-preserved
loop-entry-preserved c = record {
  twice =
      item_noted 15 (twice_inside (scope_view c.args.scope)) entry_view c.loop-entry.found.twice c.note_entry.new.found.twice _
      c.args.entries.now c.loop-entry.entry-index c.entry-item.result c.loop-entry-test.true c.entry-item.is c.in_ok-note_entry.ensures.twice c.loop-entry.invariant.twice;
  types =
      item_noted 16 (λ (e : plain.Entry). flat_map (types_said (scope_view c.args.scope)) (entry_said e.what)) entry_view c.loop-entry.found.types c.note_entry.new.found.types _
      c.args.entries.now c.loop-entry.entry-index c.entry-item.result c.loop-entry-test.true c.entry-item.is c.in_ok-note_entry.ensures.types c.loop-entry.invariant.types;
  names =
      item_noted 17 (λ (e : plain.Entry). flat_map (names_said (scope_view c.args.scope) false) (entry_said e.what)) entry_view c.loop-entry.found.names c.note_entry.new.found.names _
      c.args.entries.now c.loop-entry.entry-index c.entry-item.result c.loop-entry-test.true c.entry-item.is c.in_ok-note_entry.ensures.names c.loop-entry.invariant.names;
}
