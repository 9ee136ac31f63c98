use Rattle.std.proofs.Common.{map, ap, ◌∙◌}
use Rattle.bound_project.specs.View.{parameter_view}
use Rattle.vba_meaning.specs.Effects.{slot_values}
use Rattle.vba_meaning.specs.Defaults.{too_few}
use Rattle.run_memory.specs.View.{slot_view}
use Rattle.run_defaults.proofs.Given.{first_behind}
use Rattle.run_defaults.proofs.arguments.+too_few.Goals as goal

pub too_few-returns-in-len1-up : goal.too_few-returns-in-len1-up
too_few-returns-in-len1-up t c =
    c.too_few_behind.ensures
    ∙ ap (λ qs. too_few qs (slot_values (map slot_view c.args.arguments.now))) (first_behind parameter_view c.args.parameters.now c.first-item.result c.in-len1-up.len_at_least c.first-item.is)
