use Rattle.std.proofs.Common.{sym}
use Rattle.constant_values.specs.declared_names.specs.View.{scope_view}
use Rattle.name_rules.proofs.DeclaredHere.{event_inside, type_inside}
use Rattle.name_rules.proofs.Gathered.{noted_same}
use Rattle.name_rules.proofs.entries.note_twice_inside.Goals as goal

pub returns-in-Type : goal.returns-in-Type
returns-in-Type c =
    noted_same c.note_fields.result 15 c.note_fields.new.least c.args.least.now _ _
    (sym (type_inside (scope_view c.args.scope) c.args.entry c.in-Type.parts c.in-Type.is)) c.note_fields.ensures

pub returns-in-Event : goal.returns-in-Event
returns-in-Event c =
    noted_same c.note_parameters.result 15 c.note_parameters.new.least c.args.least.now _ _
    (sym (event_inside (scope_view c.args.scope) c.args.entry c.in-Event.event c.in-Event.is)) c.note_parameters.ensures
