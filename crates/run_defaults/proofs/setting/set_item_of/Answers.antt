use Rattle.std.proofs.Common.{map, ap, ◌∙◌}
use Rattle.vba_values.specs.View.{view}
use Rattle.vba_meaning.specs.Effects.{on_fine, slot_values}
use Rattle.run_memory.specs.View.{memory_view, slot_view}
use Rattle.run_defaults.specs.Parts.{item_set}
use Rattle.run_defaults.proofs.Going.{act_same}
use Rattle.run_defaults.proofs.Items.{set_item_is}
use Rattle.run_defaults.proofs.setting.set_item_of.Goals as goal

pub returns : goal.returns
returns c =
    let v = view c.args.value.now in
    let vs = slot_values (map slot_view c.args.arguments.now) in
    let w = view c.args.target.now in
    let m = memory_view c.args.memory.now in
    act_same _ _ _ _ _ (set_item_is v vs w m ∙ ap (λ e. on_fine e (λ u m1. item_set v w m1)) c.in_ok-item_by.ensures) c.item_set.ensures
