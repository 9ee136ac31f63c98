use Rattle.std.proofs.Common.{map, refl, subst, Some}
use Rattle.vba_values.specs.Val.{object}
use Rattle.vba_values.specs.View.{view}
use Rattle.bound_project.specs.View.{class_member_view, declarations_view}
use Rattle.vba_meaning.specs.Effects.{slot_values}
use Rattle.vba_meaning.specs.Host.{item_by}
use Rattle.vba_meaning.specs.Defaults.{over_with}
use Rattle.run_memory.specs.Acts.{Acts}
use Rattle.run_memory.specs.View.{memory_view, slot_view}
use Rattle.run_host.proofs.Telling.{acts_tell}
use Rattle.run_defaults.specs.Parts.{index_pass}
use Rattle.run_defaults.specs.View.{next_view}
use Rattle.run_defaults.proofs.Going.{index_more, use_refused, use_same, use_then}
use Rattle.run_defaults.proofs.Passing.{index_object, index_other, index_passes, index_takes}
use Rattle.run_defaults.proofs.indexing.+indexing.Goals as goal

pub index_along-returns-in-Some : goal.index_along-returns-in-Some
index_along-returns-in-Some t c =
    use_same _ _ _ _ _ _ _
    (index_object (declarations_view c.args.declared.now) c.args.left (slot_values (map slot_view c.args.arguments.items)) (view c.args.value.now) c.in-Some.me (memory_view c.args.memory.now)
    c.in-Some.ensures.there c.in-Some.ensures.whether)
    c.index_own.ensures

pub index_along-returns-in-None : goal.index_along-returns-in-None
index_along-returns-in-None t c =
    use_same _ _ _ _ _ _ _
    (index_other (declarations_view c.args.declared.now) c.args.left (slot_values (map slot_view c.args.arguments.items)) (view c.args.value.now) (memory_view c.args.memory.now)
    c.in-None.ensures.whether)
    (acts_tell next_view _ _ _ _
    (subst (λ l. Acts next_view c.item_given.result (memory_view c.item_given.new.memory) (over_with (item_by (view c.args.value.now) (slot_values (map slot_view l)) (memory_view c.args.memory.now))))
    c.as_slice.ensures.value c.item_given.ensures))

pub index_default-returns-in-Some : goal.index_default-returns-in-Some
index_default-returns-in-Some t c =
    let d = declarations_view c.args.declared.now in
    let vs = slot_values (map slot_view c.args.arguments.items) in
    let x = class_member_view c.args.member in
    use_same _ _ _ _ _ _ _
    (index_takes d (object c.args.me) vs x (λ y m1. index_pass d c.args.left vs (object c.args.me) y m1) (memory_view c.args.memory.now) c.in-Some.procedure (Some x) refl c.in-Some.ensures)
    (acts_tell next_view _ _ _ _ c.called_with.ensures)

pub index_default-returns-in-None : goal.index_default-returns-in-None
index_default-returns-in-None t c =
    let d = declarations_view c.args.declared.now in
    let vs = slot_values (map slot_view c.args.arguments.items) in
    let x = class_member_view c.args.member in
    use_same _ _ _ _ _ _ _
    (index_passes d (object c.args.me) vs x (λ y m1. index_pass d c.args.left vs (object c.args.me) y m1) (memory_view c.args.memory.now) (Some x) refl c.in-None.ensures)
    c.index_passed.ensures

pub index_passed-returns-in_err-next : goal.index_passed-returns-in_err-next
index_passed-returns-in_err-next t c =
    use_same _ _ _ _ _ _ _
    (index_more (declarations_view c.args.declared.now) c.args.left (slot_values (map slot_view c.args.arguments.items)) (object c.args.me) (class_member_view c.args.member)
    (memory_view c.args.memory.now) c.if-left-eq0.false)
    (use_refused _ _ _ _ _ _ _ _ c.from_residual.ensures.1 c.in_err-next.ensures)

pub index_passed-returns : goal.index_passed-returns
index_passed-returns t c =
    use_same _ _ _ _ _ _ _
    (index_more (declarations_view c.args.declared.now) c.args.left (slot_values (map slot_view c.args.arguments.items)) (object c.args.me) (class_member_view c.args.member)
    (memory_view c.args.memory.now) c.if-left-eq0.false)
    (use_then _ _ _ _ _ _ _ _ _ _ c.in_ok-next.ensures c.index_next.ensures)
