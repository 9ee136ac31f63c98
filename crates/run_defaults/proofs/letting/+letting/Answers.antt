use Rattle.std.proofs.Common.{map, refl, ap, subst, ◌∙◌, Some}
use Rattle.vba_values.specs.Val.{object}
use Rattle.vba_values.specs.View.{view}
use Rattle.bound_project.specs.Project.{Member}
use Rattle.bound_project.specs.View.{class_member_view, declarations_view}
use Rattle.vba_meaning.specs.Memory.{Memory}
use Rattle.vba_meaning.specs.Effects.{slot_values}
use Rattle.vba_meaning.specs.Defaults.{let_item_of}
use Rattle.run_memory.specs.View.{memory_view, slot_view}
use Rattle.run_host.specs.Tells.{Tells}
use Rattle.run_host.specs.View.{told_view}
use Rattle.run_host.proofs.Telling.{acts_tell}
use Rattle.run_defaults.specs.Parts.{let_pass, setter_taking}
use Rattle.run_defaults.specs.View.{next_view}
use Rattle.run_defaults.proofs.Going.{let_more, use_refused, use_same, use_then}
use Rattle.run_defaults.proofs.Passing.{let_object, let_other, let_puts, let_read_by, let_read_by_none, let_set_none}
use Rattle.run_defaults.proofs.letting.+letting.Goals as goal

pub let_along-returns-in-Some : goal.let_along-returns-in-Some
let_along-returns-in-Some t c =
    let d = declarations_view c.args.declared.now in
    let vs = slot_values (map slot_view c.args.arguments.items) in
    let v = view c.args.value in
    let m = memory_view c.args.memory.now in
    use_same _ _ _ _ _ _ _
    (let_object d c.args.left vs v (view c.args.target.now) c.in-Some.me m c.in-Some.ensures.there c.in-Some.ensures.whether)
    c.let_own.ensures

pub let_along-returns-in-None : goal.let_along-returns-in-None
let_along-returns-in-None t c =
    let d = declarations_view c.args.declared.now in
    let vs = slot_values (map slot_view c.args.arguments.items) in
    let v = view c.args.value in
    let m = memory_view c.args.memory.now in
    use_same _ _ _ _ _ _ _
    (let_other d c.args.left vs v (view c.args.target.now) m c.in-None.ensures.whether)
    (subst (λ l. Tells next_view c.let_item_of.result (told_view c.args.told.now) (told_view c.let_item_of.new.told) (memory_view c.let_item_of.new.memory)
    (let_item_of d v (slot_values (map slot_view l)) (view c.args.target.now) m)) c.as_slice.ensures.value c.let_item_of.ensures)

pub let_default-returns-in-Some : goal.let_default-returns-in-Some
let_default-returns-in-Some t c =
    let d = declarations_view c.args.declared.now in
    let vs = slot_values (map slot_view c.args.arguments.items) in
    let v = view c.args.value in
    let m = memory_view c.args.memory.now in
    let x = class_member_view c.args.member in
    let w = object c.args.me in
    let pass = λ (y : Member) (m1 : Memory). let_pass d c.args.left vs v w y m1 in
    use_same _ _ _ _ _ _ _
    (let_puts d v vs w x pass m c.in-Some.procedure (Some x) refl (c.in-Some.ensures ∙ ap (λ o. setter_taking d o) c.let_setter.ensures))
    c.let_put.ensures

pub let_default-returns-in-None : goal.let_default-returns-in-None
let_default-returns-in-None t c =
    let d = declarations_view c.args.declared.now in
    let vs = slot_values (map slot_view c.args.arguments.items) in
    let v = view c.args.value in
    let m = memory_view c.args.memory.now in
    let x = class_member_view c.args.member in
    let w = object c.args.me in
    let pass = λ (y : Member) (m1 : Memory). let_pass d c.args.left vs v w y m1 in
    use_same _ _ _ _ _ _ _
    (let_set_none d v vs w x pass m (c.in-None.ensures ∙ ap (λ o. setter_taking d o) c.let_setter.ensures))
    c.let_by_reader.ensures

pub let_by_reader-returns-in-Some : goal.let_by_reader-returns-in-Some
let_by_reader-returns-in-Some t c =
    let d = declarations_view c.args.declared.now in
    let vs = slot_values (map slot_view c.args.arguments.items) in
    let v = view c.args.value in
    let m = memory_view c.args.memory.now in
    let x = class_member_view c.args.member in
    let w = object c.args.me in
    let pass = λ (y : Member) (m1 : Memory). let_pass d c.args.left vs v w y m1 in
    use_same _ _ _ _ _ _ _
    (let_read_by d v vs w x pass m c.in-Some.procedure c.in-Some.ensures)
    (acts_tell next_view _ _ _ _ c.let_called_with.ensures)

pub let_by_reader-returns-in-None : goal.let_by_reader-returns-in-None
let_by_reader-returns-in-None t c =
    let d = declarations_view c.args.declared.now in
    let vs = slot_values (map slot_view c.args.arguments.items) in
    let v = view c.args.value in
    let m = memory_view c.args.memory.now in
    let x = class_member_view c.args.member in
    let w = object c.args.me in
    let pass = λ (y : Member) (m1 : Memory). let_pass d c.args.left vs v w y m1 in
    use_same _ _ _ _ _ _ _
    (let_read_by_none d v vs w x pass m c.in-None.ensures)
    c.let_passed.ensures

pub let_passed-returns : goal.let_passed-returns
let_passed-returns t c =
    let d = declarations_view c.args.declared.now in
    let vs = slot_values (map slot_view c.args.arguments.items) in
    let v = view c.args.value in
    let m = memory_view c.args.memory.now in
    let x = class_member_view c.args.member in
    let w = object c.args.me in
    use_same _ _ _ _ _ _ _
    (let_more d c.args.left vs v w x m c.if-left-eq0.false)
    c.let_leads.ensures

pub let_read-returns-in_err-next : goal.let_read-returns-in_err-next
let_read-returns-in_err-next t c = use_refused _ _ _ _ _ _ _ _ c.from_residual.ensures.1 c.in_err-next.ensures

pub let_read-returns : goal.let_read-returns
let_read-returns t c = use_then _ _ _ _ _ _ _ _ _ _ c.in_ok-next.ensures c.let_next.ensures

pub let_there-returns-in_err-next : goal.let_there-returns-in_err-next
let_there-returns-in_err-next t c = use_refused _ _ _ _ _ _ _ _ c.from_residual.ensures.1 c.in_err-next.ensures

pub let_there-returns : goal.let_there-returns
let_there-returns t c = use_then _ _ _ _ _ _ _ _ _ _ c.in_ok-next.ensures c.let_next.ensures
