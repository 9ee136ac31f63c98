use Rattle.std.proofs.Common.{map, sym, ◌∙◌}
use Rattle.vba_values.specs.View.{view}
use Rattle.bound_project.specs.View.{declarations_view}
use Rattle.vba_meaning.specs.Effects.{slot_values}
use Rattle.vba_meaning.specs.Host.{item_by}
use Rattle.run_memory.specs.View.{memory_view, slot_view}
use Rattle.run_host.specs.View.{told_view}
use Rattle.run_host.proofs.Telling.{acts_tell}
use Rattle.run_host.proofs.Parts.{by_places, by_value}
use Rattle.run_host.proofs.members.member_by.Goals as goal

pub returns-then-are_places : goal.returns-then-are_places
returns-then-are_places c =
    rw (by_places (declarations_view c.args.declared.now) c.args.of c.args.how c.args.slots.now (view c.args.begun.now) (memory_view
    c.args.memory.now) (sym c.are_places.ensures ∙ c.if-are_places.true))
    (acts_tell view c.item_by.result (told_view c.args.told.now) (memory_view c.item_by.new.memory) (item_by (view c.args.begun.now) (slot_values
    (map slot_view c.args.slots.now)) (memory_view c.args.memory.now)) c.item_by.ensures)

pub returns : goal.returns
returns c =
    rw (by_value (declarations_view c.args.declared.now) c.args.of c.args.how c.args.slots.now (view c.args.begun.now) (memory_view
    c.args.memory.now) (sym c.are_places.ensures ∙ c.if-are_places.false))
    (rw c.number_of.ensures at c.member_value.ensures)
