use Rattle.std.proofs.Common.{map}
use Rattle.vba_values.specs.View.{view}
use Rattle.bound_project.specs.View.{declarations_view}
use Rattle.vba_meaning.specs.Effects.{slot_values}
use Rattle.run_memory.specs.View.{memory_view, slot_view}
use Rattle.run_defaults.proofs.Going.{act_refused, act_then, use_same}
use Rattle.run_defaults.proofs.Items.{let_item_is}
use Rattle.run_defaults.proofs.letting.let_item_of.Goals as goal

pub returns-in_err-item : goal.returns-in_err-item
returns-in_err-item c =
    use_same _ _ _ _ _ _ _
    (let_item_is (declarations_view c.args.declared.now) (view c.args.value) (slot_values (map slot_view c.args.arguments.now)) (view c.args.target.now) (memory_view c.args.memory.now))
    (act_refused _ _ _ _ _ _ _ c.from_residual.ensures.1 c.in_err-item.ensures)

pub returns : goal.returns
returns c =
    use_same _ _ _ _ _ _ _
    (let_item_is (declarations_view c.args.declared.now) (view c.args.value) (slot_values (map slot_view c.args.arguments.now)) (view c.args.target.now) (memory_view c.args.memory.now))
    (act_then _ _ _ _ _ _ _ _ _ c.in_ok-item.ensures c.item_takes.ensures)
