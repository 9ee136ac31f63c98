use Rattle.std.proofs.Common.{◌≡◌, map, ap, sym, rules}
use Rattle.std.specs.Prelude.{Ok}
use Rattle.vba_values.specs.declared.value.Value.{the_lemmas}
use Rattle.vba_values.specs.declared.value.Value.TheVariants.{Empty}
use Rattle.vba_values.specs.Val.{empty}
use Rattle.vba_values.specs.View.{view}
use Rattle.bound_project.specs.View.{declarations_view}
use Rattle.vba_meaning.specs.Effects.{Fine, slot_values}
use Rattle.vba_meaning.specs.Host.{member_assigned}
use Rattle.vba_meaning.specs.Defaults.{gives}
use Rattle.run_memory.specs.View.{memory_view, slot_view}
use Rattle.run_host.specs.View.{told_view}
use Rattle.run_host.proofs.Telling.{quiet_fine, tells_fault, then_refused, then_tells}
use Rattle.run_defaults.specs.View.{next_view}
use Rattle.run_defaults.specs.declared.next.Next.TheVariants.{Gives}
use Rattle.run_late.proofs.letting.member_set.Goals as goal

view_empty : view Empty ≡ empty
view_empty = search (rules, the_lemmas)

pub returns-in_err-member_assigned : goal.returns-in_err-member_assigned
returns-in_err-member_assigned c =
    let old = told_view c.args.told.now in
    let new = told_view c.member_assigned.new.told in
    let m = memory_view c.member_assigned.new.memory in
    tells_fault next_view c.from_residual.result c.in_err-member_assigned.field-0.0 old new m _ c.from_residual.ensures.1
    (then_refused c.in_err-member_assigned.field-0.0 old new m (member_assigned (declarations_view c.args.declared.now) c.args.name.now (slot_values (map slot_view c.args.slots.now)) (view c.args.base.now) (view c.args.begun.now)
    (view c.args.value) (memory_view c.args.memory.now)) (λ u m1. Fine (gives empty) m1) c.in_err-member_assigned.ensures)

pub returns : goal.returns
returns c =
    let old = told_view c.args.told.now in
    let new = told_view c.member_assigned.new.told in
    let m = memory_view c.member_assigned.new.memory in
    then_tells next_view (Ok (Gives Empty)) old new new (member_assigned (declarations_view c.args.declared.now) c.args.name.now (slot_values (map slot_view c.args.slots.now)) (view c.args.base.now) (view c.args.begun.now)
    (view c.args.value) (memory_view c.args.memory.now)) (λ u m1. Fine (gives empty) m1) tt m m
    c.in_ok-member_assigned.ensures (quiet_fine new (Fine (gives empty) m) (next_view (Gives Empty)) m (ap (λ v. Fine (gives v) m) (sym view_empty)))
