use Rattle.std.proofs.Common.{sym, ◌∙◌}
use Rattle.bound_project.specs.Project.{procedure_at}
use Rattle.bound_project.specs.View.{declarations_view}
use Rattle.class_defaults.proofs.Counted.{procedure_takes, procedure_passes}
use Rattle.class_defaults.proofs.items.procedure_led.Goals as goal

pub returns-then-has_parameters : goal.returns-then-has_parameters
returns-then-has_parameters c = procedure_takes (procedure_at (declarations_view c.args.declared.now) c.args.procedure) c.args.count _ _ _ c.parameters_of-parameters.ensures c.result_of-of.ensures (sym c.has_parameters.ensures ∙ c.if-has_parameters.true) c.taken_or.ensures

pub returns : goal.returns
returns c = procedure_passes (procedure_at (declarations_view c.args.declared.now) c.args.procedure) c.args.count _ _ c.parameters_of-parameters.ensures c.result_of-of.ensures (sym c.has_parameters.ensures ∙ c.if-has_parameters.false)
