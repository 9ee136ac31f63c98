use Rattle.std.proofs.Common.{map, refl, ap, subst, ◌∙◌, Some}
use Rattle.vba_values.specs.declared.fault.Bad.TheVariants.{Raise}
use Rattle.vba_values.specs.Val.{object}
use Rattle.vba_values.specs.View.{view}
use Rattle.bound_project.specs.Project.{Member}
use Rattle.bound_project.specs.View.{class_member_view, declarations_view}
use Rattle.vba_meaning.specs.Memory.{Memory}
use Rattle.vba_meaning.specs.Effects.{slot_values}
use Rattle.vba_meaning.specs.Defaults.{set_item_of}
use Rattle.run_memory.specs.Acts.{Acts}
use Rattle.run_memory.specs.View.{memory_view, slot_view}
use Rattle.run_host.proofs.Telling.{acts_tell, quiet_bad}
use Rattle.run_defaults.specs.Parts.{set_pass, setter_taking}
use Rattle.run_defaults.specs.View.{next_view}
use Rattle.run_defaults.proofs.Going.{set_more, use_refused, use_same, use_then}
use Rattle.run_defaults.proofs.Passing.{set_calls, set_of_object, set_other, set_read_by, set_read_by_none, set_set_none}
use Rattle.run_defaults.proofs.setting.+setting.Goals as goal

pub set_along-returns-in-Some : goal.set_along-returns-in-Some
set_along-returns-in-Some t c =
    let d = declarations_view c.args.declared.now in
    let vs = slot_values (map slot_view c.args.arguments.items) in
    let v = view c.args.value in
    let m = memory_view c.args.memory.now in
    use_same _ _ _ _ _ _ _
    (set_of_object d c.args.left vs v (view c.args.target.now) c.in-Some.me m c.in-Some.ensures.there c.in-Some.ensures.whether)
    c.set_own.ensures

pub set_along-returns-in-None : goal.set_along-returns-in-None
set_along-returns-in-None t c =
    let d = declarations_view c.args.declared.now in
    let vs = slot_values (map slot_view c.args.arguments.items) in
    let v = view c.args.value in
    let m = memory_view c.args.memory.now in
    use_same _ _ _ _ _ _ _
    (set_other d c.args.left vs v (view c.args.target.now) m c.in-None.ensures.whether)
    (acts_tell next_view _ _ _ _
    (subst (λ l. Acts next_view c.set_item_of.result (memory_view c.set_item_of.new.memory) (set_item_of v (slot_values (map slot_view l)) (view c.args.target.now) m))
    c.as_slice.ensures.value c.set_item_of.ensures))

pub set_default-returns-in-Some : goal.set_default-returns-in-Some
set_default-returns-in-Some t c =
    let d = declarations_view c.args.declared.now in
    let vs = slot_values (map slot_view c.args.arguments.items) in
    let v = view c.args.value in
    let m = memory_view c.args.memory.now in
    let x = class_member_view c.args.member in
    let w = object c.args.me in
    let pass = λ (y : Member) (m1 : Memory). set_pass d c.args.left vs v w y m1 in
    use_same _ _ _ _ _ _ _
    (set_calls d v vs w x pass m c.in-Some.procedure (Some x) refl (c.in-Some.ensures ∙ ap (λ o. setter_taking d o) c.setter_of.ensures))
    (acts_tell next_view _ _ _ _ c.set_called_with.ensures)

pub set_default-returns-in-None : goal.set_default-returns-in-None
set_default-returns-in-None t c =
    let d = declarations_view c.args.declared.now in
    let vs = slot_values (map slot_view c.args.arguments.items) in
    let v = view c.args.value in
    let m = memory_view c.args.memory.now in
    let x = class_member_view c.args.member in
    let w = object c.args.me in
    let pass = λ (y : Member) (m1 : Memory). set_pass d c.args.left vs v w y m1 in
    use_same _ _ _ _ _ _ _
    (set_set_none d v vs w x pass m (c.in-None.ensures ∙ ap (λ o. setter_taking d o) c.setter_of.ensures))
    c.set_by_reader.ensures

pub set_by_reader-returns-in-Some : goal.set_by_reader-returns-in-Some
set_by_reader-returns-in-Some t c =
    let d = declarations_view c.args.declared.now in
    let vs = slot_values (map slot_view c.args.arguments.items) in
    let v = view c.args.value in
    let m = memory_view c.args.memory.now in
    let x = class_member_view c.args.member in
    let w = object c.args.me in
    let pass = λ (y : Member) (m1 : Memory). set_pass d c.args.left vs v w y m1 in
    quiet_bad _ _ (Raise 438) m (set_read_by d x pass m c.in-Some.field-0 c.in-Some.ensures)

pub set_by_reader-returns-in-None : goal.set_by_reader-returns-in-None
set_by_reader-returns-in-None t c =
    let d = declarations_view c.args.declared.now in
    let vs = slot_values (map slot_view c.args.arguments.items) in
    let v = view c.args.value in
    let m = memory_view c.args.memory.now in
    let x = class_member_view c.args.member in
    let w = object c.args.me in
    let pass = λ (y : Member) (m1 : Memory). set_pass d c.args.left vs v w y m1 in
    use_same _ _ _ _ _ _ _
    (set_read_by_none d x pass m c.in-None.ensures)
    c.set_passed.ensures

pub set_passed-returns : goal.set_passed-returns
set_passed-returns t c =
    let d = declarations_view c.args.declared.now in
    let vs = slot_values (map slot_view c.args.arguments.items) in
    let v = view c.args.value in
    let m = memory_view c.args.memory.now in
    let x = class_member_view c.args.member in
    let w = object c.args.me in
    use_same _ _ _ _ _ _ _
    (set_more d c.args.left vs v w x m c.if-left-eq0.false)
    c.set_leads.ensures

pub set_read-returns-in_err-next : goal.set_read-returns-in_err-next
set_read-returns-in_err-next t c = use_refused _ _ _ _ _ _ _ _ c.from_residual.ensures.1 c.in_err-next.ensures

pub set_read-returns : goal.set_read-returns
set_read-returns t c = use_then _ _ _ _ _ _ _ _ _ _ c.in_ok-next.ensures c.set_next.ensures

pub set_there-returns-in_err-next : goal.set_there-returns-in_err-next
set_there-returns-in_err-next t c = use_refused _ _ _ _ _ _ _ _ c.from_residual.ensures.1 c.in_err-next.ensures

pub set_there-returns : goal.set_there-returns
set_there-returns t c = use_then _ _ _ _ _ _ _ _ _ _ c.in_ok-next.ensures c.set_next.ensures
