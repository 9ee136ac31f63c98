use Rattle.std.proofs.Common.{ap, sym, ◌∙◌}
use Rattle.bound_project.specs.Parameters.{without_last}
use Rattle.bound_project.specs.Project.{procedure_at}
use Rattle.bound_project.specs.View.{declarations_view}
use Rattle.class_defaults.specs.Known.{way_view}
use Rattle.class_defaults.proofs.Counted.{setter_passes_on, setter_takes}
use Rattle.class_defaults.proofs.items.setter_way.Goals as goal

pub returns-then-has_parameters : goal.returns-then-has_parameters
returns-then-has_parameters c =
    setter_takes (procedure_at (declarations_view c.args.declared.now) c.args.procedure) c.args.count _ (way_view c.args.others) _ (c.without_last-parameters.ensures ∙ ap without_last c.parameters_of.ensures)
    (sym c.has_parameters.ensures ∙ c.if-has_parameters.true) c.taken_or.ensures

pub returns : goal.returns
returns c =
    setter_passes_on (procedure_at (declarations_view c.args.declared.now) c.args.procedure) c.args.count _ (way_view c.args.others) (c.without_last-parameters.ensures ∙ ap without_last c.parameters_of.ensures)
    (sym c.has_parameters.ensures ∙ c.if-has_parameters.false)
