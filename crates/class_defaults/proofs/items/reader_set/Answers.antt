use Rattle.std.proofs.Common.{sym, ◌∙◌}
use Rattle.bound_project.specs.Project.{procedure_at}
use Rattle.bound_project.specs.View.{declarations_view}
use Rattle.class_defaults.proofs.Counted.{reader_sets_here, reader_sets_on}
use Rattle.class_defaults.proofs.items.reader_set.Goals as goal

pub returns-then-has_parameters : goal.returns-then-has_parameters
returns-then-has_parameters c = reader_sets_here (procedure_at (declarations_view c.args.declared.now) c.args.procedure) c.args.count _ _ _ c.parameters_of-parameters.ensures (sym c.has_parameters.ensures ∙ c.if-has_parameters.true) c.takes_many-takes.ensures c.unset.ensures

pub returns : goal.returns
returns c = reader_sets_on (procedure_at (declarations_view c.args.declared.now) c.args.procedure) c.args.count _ _ c.parameters_of-parameters.ensures c.result_of.ensures (sym c.has_parameters.ensures ∙ c.if-has_parameters.false)
