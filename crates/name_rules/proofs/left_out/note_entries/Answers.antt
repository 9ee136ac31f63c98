use Rattle.constant_values.specs.declared_names.specs.binder.specs.LeftOut.{entry_left_out}
use Rattle.constant_values.specs.declared_names.specs.View.{entry_view, scope_view}
use Rattle.name_rules.proofs.Gathered.{item_noted}
use Rattle.name_rules.proofs.left_out.note_entries.Goals as goal

pub loop-entry-preserved : goal.loop-entry-preserved
loop-entry-preserved c =
    item_noted 23 (entry_left_out (scope_view c.args.scope)) entry_view c.loop-entry.least c.note_entry.new.least _
    c.args.entries.now c.loop-entry.entry-index c.entry-item.result c.loop-entry-test.true c.entry-item.is c.in_ok-note_entry.ensures c.loop-entry.invariant
