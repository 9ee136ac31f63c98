use Rattle.constant_values.specs.declared_names.specs.View.{scope_view}
use Rattle.name_rules.proofs.LeftOut.{module_noted}
use Rattle.name_rules.proofs.left_out.note_module.Goals as goal

pub returns : goal.returns
returns c =
    module_noted c.note_procedures.result (scope_view c.args.scope) c.as_slice-entries.result.now c.args.scope.here.now.entries.items
    c.note_procedures.new.least c.note_entries.new.least c.args.least.now
    c.as_slice-entries.ensures.value c.in_ok-note_entries.ensures c.note_procedures.ensures
