use Rattle.std.proofs.Common.{sym, ◌∙◌}
use Rattle.bound_project.specs.Project.{procedure_at}
use Rattle.bound_project.specs.View.{declarations_view}
use Rattle.class_defaults.proofs.Counted.{reader_lets_here, reader_lets_on}
use Rattle.class_defaults.proofs.items.reader_let.Goals as goal

pub returns-then-has_parameters : goal.returns-then-has_parameters
returns-then-has_parameters c = reader_lets_here (declarations_view c.args.declared.now) (procedure_at (declarations_view c.args.declared.now) c.args.procedure) c.args.count _ _ c.parameters_of-parameters.ensures (sym c.has_parameters.ensures ∙ c.if-has_parameters.true) c.result_let.ensures

pub returns : goal.returns
returns c = reader_lets_on (declarations_view c.args.declared.now) (procedure_at (declarations_view c.args.declared.now) c.args.procedure) c.args.count _ _ c.parameters_of-parameters.ensures c.result_of.ensures (sym c.has_parameters.ensures ∙ c.if-has_parameters.false)
