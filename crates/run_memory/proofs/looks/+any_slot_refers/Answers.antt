use Rattle.std.proofs.Common.{drop, map, ap, sym, ◌∙◌}
use Rattle.std.specs.Prelude.{◌||◌}
use Rattle.vba_meaning.specs.References.{objects_in_slots}
use Rattle.run_memory.specs.View.{slot_view}
use Rattle.run_memory.specs.Referred.{occurs}
use Rattle.run_memory.proofs.Referred.{rest_is, slots_first}
use Rattle.run_memory.proofs.looks.+any_slot_refers.Goals as goal

pub returns-then-slot_refers : goal.returns-then-slot_refers
returns-then-slot_refers t c =
    let o = c.args.object in
    let xs = c.args.slots.now in
    let rest = occurs o (objects_in_slots (map slot_view (drop 1 xs))) in
    c.if-slot_refers.true
    ∙ sym (slots_first o xs c.first-item.result c.in-len1-up.len_at_least c.first-item.is ∙ ap (λ b. b || rest) (sym c.slot_refers.ensures ∙ c.if-slot_refers.true))

pub returns-else-slot_refers : goal.returns-else-slot_refers
returns-else-slot_refers t c =
    let o = c.args.object in
    let xs = c.args.slots.now in
    let rest = occurs o (objects_in_slots (map slot_view (drop 1 xs))) in
    c.any_slot_refers.ensures
    ∙ ap (λ ys. occurs o (objects_in_slots (map slot_view ys))) (rest_is xs)
    ∙ sym (slots_first o xs c.first-item.result c.in-len1-up.len_at_least c.first-item.is ∙ ap (λ b. b || rest) (sym c.slot_refers.ensures ∙ c.if-slot_refers.false))
