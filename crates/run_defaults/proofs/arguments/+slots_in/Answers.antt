use Rattle.std.proofs.Common.{◌∷◌, map, ap, sym, ◌∙◌}
use Rattle.vba_values.specs.View.{view}
use Rattle.bound_project.specs.View.{parameter_view}
use Rattle.vba_meaning.specs.Effects.{slot_values}
use Rattle.vba_meaning.specs.Defaults.{slots_in}
use Rattle.run_memory.specs.View.{memory_view, slot_view}
use Rattle.run_defaults.proofs.Going.{act_same}
use Rattle.run_defaults.proofs.Given.{first_behind}
use Rattle.run_defaults.proofs.arguments.+slots_in.Goals as goal

pub slots_in-returns-in-Some : goal.slots_in-returns-in-Some
slots_in-returns-in-Some t c =
    let m = memory_view c.args.memory.now in
    act_same _ _ _ _ _
    (ap (λ vs. slots_in (map parameter_view c.args.parameters.now) vs m) c.in-Some.ensures
    ∙ ap (λ qs. slots_in qs (view c.in-Some.argument ∷ slot_values (map slot_view c.next_argument.new.arguments.items)) m)
    (sym (first_behind parameter_view c.args.parameters.now c.first-item.result c.in-len1-up.len_at_least c.first-item.is)))
    c.slots_with.ensures
