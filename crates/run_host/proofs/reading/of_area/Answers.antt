use Rattle.std.proofs.Common.{◌≡◌, ◌∙◌, ap, map, rules, sym}
use Rattle.vba_values.specs.declared.object.HostRef.TheVariants as host
use Rattle.vba_values.specs.declared.value.Value.{the_lemmas}
use Rattle.vba_values.specs.declared.value.Value.TheVariants as value
use Rattle.vba_values.specs.Val.{empty}
use Rattle.vba_values.specs.View.{view}
use Rattle.vba_meaning.specs.Effects.{Fine, slot_values}
use Rattle.vba_meaning.specs.Events.{noted}
use Rattle.vba_meaning.specs.Host.{cleared, member_value}
use Rattle.run_memory.specs.View.{memory_view, slot_view}
use Rattle.run_host.specs.View.{told_view}
use Rattle.run_host.proofs.Telling.{acts_tell, quiet_fine, tells_fault, then_all, then_refused}
use Rattle.std.specs.Prelude.{◌*◌}
use Rattle.run_host.proofs.reading.of_area.Goals as goal

view_empty : view value.Empty ≡ empty
view_empty = search (rules, the_lemmas)

pub returns-then-number-ne11 : goal.returns-then-number-ne11
returns-then-number-ne11 c = λ d.
    acts_tell view c.read_of_area.result (told_view c.args.told.now) (memory_view c.args.memory.now) (member_value d (host.Area c.args.area.sheet.0
    c.args.area.top c.args.area.left c.args.area.rows c.args.area.columns) c.args.number (slot_values (map slot_view c.args.slots.now)) (memory_view
    c.args.memory.now)) (c.read_of_area.ensures d)

pub returns-in_err-cleared : goal.returns-in_err-cleared
returns-in_err-cleared c = λ d.
    rw c.if-number-ne11.false
    (tells_fault view c.from_residual.result c.in_err-cleared.field-0.0 (told_view c.args.told.now) (told_view c.cleared.new.told) (memory_view
    c.cleared.new.memory)
    (member_value d (host.Area c.args.area.sheet.0 c.args.area.top c.args.area.left c.args.area.rows c.args.area.columns) 11 (slot_values
    (map slot_view c.args.slots.now)) (memory_view c.args.memory.now)) c.from_residual.ensures.1
    (then_refused c.in_err-cleared.field-0.0 (told_view c.args.told.now) (told_view c.cleared.new.told) (memory_view c.cleared.new.memory)
    (cleared c.args.area (c.args.area.rows * c.args.area.columns) (memory_view c.args.memory.now)) (λ u m1. Fine empty (noted c.args.area m1)) c.in_err-cleared.ensures))

pub returns : goal.returns
returns c = λ d.
    let m = memory_view c.cleared.new.memory in
    let n = memory_view c.noted.new.memory in
    rw c.if-number-ne11.false
    (then_all (told_view c.args.told.now) (told_view c.cleared.new.told) (told_view c.cleared.new.told) (cleared c.args.area (c.args.area.rows *
    c.args.area.columns) (memory_view c.args.memory.now)) (λ u m1. Fine empty (noted c.args.area m1)) tt m (Fine (view value.Empty) n)
    c.in_ok-cleared.ensures (quiet_fine (told_view c.cleared.new.told) (Fine empty (noted c.args.area m)) (view value.Empty) n (ap (λ k. Fine empty k) (sym c.noted.ensures) ∙ ap (λ v. Fine v n) (sym view_empty))))
