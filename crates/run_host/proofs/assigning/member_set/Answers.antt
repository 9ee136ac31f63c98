use Rattle.std.proofs.Common.{ap, map, sym, ◌≡◌, ◌∙◌}
use Rattle.std.specs.Prelude.{length}
use Rattle.vba_values.specs.View.{view}
use Rattle.bound_project.specs.View.{declarations_view}
use Rattle.vba_meaning.specs.Effects.{slot_values}
use Rattle.vba_meaning.specs.Host.{are_places, assigned_through, mark_set, member_by}
use Rattle.run_memory.specs.View.{memory_view, slot_view}
use Rattle.run_host.specs.View.{told_view}
use Rattle.run_host.proofs.Telling.{acts_tell, tells_fault, then_refused, then_tells}
use Rattle.run_host.proofs.Assigned.{set_ways}
use Rattle.run_host.proofs.Parts.{slot_count}
use Rattle.run_host.proofs.assigning.member_set.Goals as goal

pub returns-in-Mark : goal.returns-in-Mark
returns-in-Mark c =
    rw (
      set_ways (declarations_view c.args.declared.now) c.args.of c.args.how (slot_values (map slot_view c.args.slots.now)) (view c.args.begun.now)
          (view c.args.value) (memory_view c.args.memory.now),
      ← c.way_of.ensures,
      c.in-Mark.is,
    )
    (acts_tell (λ done. done) c.mark_set.result (told_view c.args.told.now) (memory_view c.mark_set.new.memory) (mark_set c.in-Mark.number (view
    c.args.value) (memory_view c.args.memory.now)) c.mark_set.ensures)

pub returns-in_err-target-in-Through : goal.returns-in_err-target-in-Through
returns-in_err-target-in-Through c =
    rw (
      set_ways (declarations_view c.args.declared.now) c.args.of c.args.how (slot_values (map slot_view c.args.slots.now)) (view c.args.begun.now)
          (view c.args.value) (memory_view c.args.memory.now),
      ← c.way_of.ensures,
      c.in-Through.is,
    )
    (tells_fault (λ done. done) c.from_residual.result c.in_err-target-in-Through.field-0.0 (told_view c.args.told.now) (told_view c.member_by.new.told)
    (memory_view c.member_by.new.memory) _ c.from_residual.ensures.1
    (then_refused c.in_err-target-in-Through.field-0.0 (told_view c.args.told.now) (told_view c.member_by.new.told) (memory_view c.member_by.new.memory)
    (member_by (declarations_view c.args.declared.now) c.args.of c.args.how (slot_values (map slot_view c.args.slots.now)) (view c.args.begun.now)
    (memory_view c.args.memory.now)) (λ w m1. assigned_through (are_places c.args.of c.args.how (length (slot_values (map slot_view
    c.args.slots.now)))) w (view c.args.value) m1) c.in_err-target-in-Through.ensures))

pub returns-in_ok-target-in-Through : goal.returns-in_ok-target-in-Through
returns-in_ok-target-in-Through c =
    let m = memory_view c.member_by.new.memory in
    let mid = told_view c.member_by.new.told in
    let is : are_places c.args.of c.args.how (length (slot_values (map slot_view c.args.slots.now))) ≡ c.are_places-is_place.result =
    ap (are_places c.args.of c.args.how) (slot_count c.args.slots.now) ∙ sym c.are_places-is_place.ensures in
    rw (
      set_ways (declarations_view c.args.declared.now) c.args.of c.args.how (slot_values (map slot_view c.args.slots.now)) (view c.args.begun.now)
          (view c.args.value) (memory_view c.args.memory.now),
      ← c.way_of.ensures,
      c.in-Through.is,
    )
    (then_tells (λ done. done) c.assigned_through.result (told_view c.args.told.now) mid (told_view c.assigned_through.new.told) (member_by
    (declarations_view c.args.declared.now) c.args.of c.args.how (slot_values (map slot_view c.args.slots.now)) (view c.args.begun.now) (memory_view
    c.args.memory.now)) (λ w m1. assigned_through (are_places c.args.of c.args.how (length (slot_values (map slot_view c.args.slots.now)))) w (view
    c.args.value) m1) (view c.in_ok-target-in-Through.target) m (memory_view c.assigned_through.new.memory)
    c.in_ok-target-in-Through.ensures (rw is c.assigned_through.ensures))
