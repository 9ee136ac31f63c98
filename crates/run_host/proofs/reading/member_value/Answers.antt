use Rattle.std.proofs.Common.{map, subst}
use Rattle.vba_values.specs.declared.object.HostRef.TheVariants as host
use Rattle.vba_values.specs.Val.{Val}
use Rattle.vba_values.specs.View.{view}
use Rattle.sheet_host.specs.declared.area.Area.{Area}
use Rattle.bound_project.specs.View.{declarations_view}
use Rattle.vba_meaning.specs.Effects.{Effect, slot_values}
use Rattle.vba_meaning.specs.Host.{member_value}
use Rattle.run_memory.specs.View.{memory_view, slot_view}
use Rattle.run_host.specs.Tells.{Tells}
use Rattle.run_host.specs.View.{told_view}
use Rattle.run_host.proofs.Telling.{acts_tell}
use Rattle.run_host.proofs.reading.member_value.Goals as goal

pub returns-in-Application : goal.returns-in-Application
returns-in-Application c =
    rw c.in-Application.is
    (acts_tell view c.mark_of.result (told_view c.args.told.now) (memory_view c.args.memory.now) (member_value (declarations_view
    c.args.declared.now) host.Application c.args.number (slot_values (map slot_view c.args.slots.now)) (memory_view c.args.memory.now))
    (c.mark_of.ensures (declarations_view c.args.declared.now) (slot_values (map slot_view c.args.slots.now))))

pub returns-in-Sheets : goal.returns-in-Sheets
returns-in-Sheets c =
    rw c.in-Sheets.is
    (acts_tell view c.of_sheets.result (told_view c.args.told.now) (memory_view c.args.memory.now) (member_value (declarations_view
    c.args.declared.now) host.Sheets c.args.number (slot_values (map slot_view c.args.slots.now)) (memory_view c.args.memory.now))
    (c.of_sheets.ensures (declarations_view c.args.declared.now)))

pub returns-in-ErrObject : goal.returns-in-ErrObject
returns-in-ErrObject c =
    rw c.in-ErrObject.is
    (acts_tell view c.of_err.result (told_view c.args.told.now) (memory_view c.of_err.new.memory) (member_value (declarations_view
    c.args.declared.now) host.ErrObject c.args.number (slot_values (map slot_view c.args.slots.now)) (memory_view c.args.memory.now))
    (c.of_err.ensures (slot_values (map slot_view c.args.slots.now))))

pub returns-in-Sheet : goal.returns-in-Sheet
returns-in-Sheet c =
    rw c.in-Sheet.is
    (acts_tell view c.of_sheet.result (told_view c.args.told.now) (memory_view c.args.memory.now) (member_value (declarations_view
    c.args.declared.now) (host.Sheet c.in-Sheet.sheet) c.args.number (slot_values (map slot_view c.args.slots.now)) (memory_view c.args.memory.now))
    (c.of_sheet.ensures (declarations_view c.args.declared.now)))

pub returns-in-Area : goal.returns-in-Area
returns-in-Area c =
    let member : Area → Effect Val = λ a. member_value (declarations_view c.args.declared.now) (host.Area a.sheet.0 a.top a.left a.rows a.columns) c.args.number
    (slot_values (map slot_view c.args.slots.now)) (memory_view c.args.memory.now) in
    rw c.in-Area.is
    (subst (λ a. Tells view c.of_area.result (told_view c.args.told.now) (told_view c.of_area.new.told) (memory_view c.of_area.new.memory) (member a)) c.area_in-area.ensures
    (c.of_area.ensures (declarations_view c.args.declared.now)))
