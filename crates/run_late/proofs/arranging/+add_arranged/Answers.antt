use Rattle.std.proofs.Common.{◌+◌, ◌-◌, ◌++◌, List, length, map, take, drop, ap, ◌∙◌}
use Rattle.std.proofs.lemmas.Result.{on_ok_weaker}
use Rattle.bound_project.specs.View.{parameter_view}
use Rattle.vba_meaning.specs.Memory as plain
use Rattle.vba_meaning.specs.LateBound.{arranged_from}
use Rattle.run_memory.specs.declared.frame.Slot.{Slot}
use Rattle.run_memory.specs.View.{slot_view}
use Rattle.run_host.specs.ByName.{by_name_view}
use Rattle.run_late.proofs.Arranged.{arranged_first, slot_added}
use Rattle.run_late.proofs.arranging.+add_arranged.Goals as goal

pub returns-in_ok-push-in-len1-up : goal.returns-in_ok-push-in-len1-up
returns-in_ok-push-in-len1-up t c =
    let by = by_name_view c.args.names in
    let xs = map slot_view c.args.slots.now in
    let ps = c.args.parameters.now in
    let rest : List plain.Slot = arranged_from by (c.args.number + 1) (map parameter_view (take (length ps - 1) (drop 1 ps))) xs in
    on_ok_weaker c.add_arranged.result
    (λ h. h ∙ ap (λ (l : List Slot). map slot_view l ++ rest) c.in_ok-push-in-len1-up.ensures.items
    ∙ slot_added c.args.arranged.now.items c.in_ok-slot_arranged-in-len1-up.field-0 _ rest _ c.in_ok-slot_arranged-in-len1-up.ensures
    (arranged_first by c.args.number ps c.first-item.result xs c.in-len1-up.len_at_least c.first-item.is))
    c.add_arranged.ensures
