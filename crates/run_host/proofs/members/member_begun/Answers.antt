use Rattle.std.proofs.Common.{[], sym, true, ◌≡◌, ◌∙◌}
use Rattle.vba_values.specs.View.{view}
use Rattle.bound_project.specs.View.{declarations_view}
use Rattle.vba_meaning.specs.Host.{are_places, can_index, member_value}
use Rattle.run_memory.specs.View.{memory_view}
use Rattle.run_host.specs.View.{told_view}
use Rattle.run_host.proofs.Telling.{acts_tell, tells_fault, then_refused, then_tells}
use Rattle.sheet_host.specs.Members.{number_of}
use Rattle.run_host.proofs.members.member_begun.Goals as goal

pub returns-in_err-value : goal.returns-in_err-value
returns-in_err-value c =
    let is : are_places c.args.of c.args.how c.args.given ≡ true = sym c.are_places.ensures ∙ c.if-are_places.true in
    rw is
    (tells_fault view c.from_residual.result c.in_err-value.field-0.0 (told_view c.args.told.now) (told_view c.member_value.new.told) (memory_view
    c.member_value.new.memory) _ c.from_residual.ensures.1
    (then_refused c.in_err-value.field-0.0 (told_view c.args.told.now) (told_view c.member_value.new.told) (memory_view c.member_value.new.memory)
    (member_value (declarations_view c.args.declared.now) c.args.of (number_of c.args.how) [] (memory_view c.args.memory.now)) (λ v m1. can_index v
    c.args.given m1) (rw c.number_of-number.ensures at (c.in_err-value.ensures {u = tt}))))

pub returns-then-are_places : goal.returns-then-are_places
returns-then-are_places c =
    let is : are_places c.args.of c.args.how c.args.given ≡ true = sym c.are_places.ensures ∙ c.if-are_places.true in
    let m = memory_view c.member_value.new.memory in
    let new = told_view c.member_value.new.told in
    rw is
    (then_tells view c.can_index.result (told_view c.args.told.now) new new (member_value (declarations_view c.args.declared.now) c.args.of
    (number_of c.args.how) [] (memory_view c.args.memory.now)) (λ v m1. can_index v c.args.given m1) (view c.in_ok-value.value) m m
    (rw c.number_of-number.ensures at (c.in_ok-value.ensures {u = tt}))
    (acts_tell view c.can_index.result new m (can_index (view c.in_ok-value.value) c.args.given m) (c.can_index.ensures m)))
