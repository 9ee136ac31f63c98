use Rattle.std.proofs.Common.{sym, ◌∙◌}
use Rattle.bound_project.specs.Project.{procedure_at}
use Rattle.bound_project.specs.View.{declarations_view}
use Rattle.class_defaults.proofs.Counted.{result_takes, result_refuses}
use Rattle.class_defaults.proofs.items.result_let.Goals as goal

pub returns-then-takes_many : goal.returns-then-takes_many
returns-then-takes_many c = result_takes (declarations_view c.args.declared.now) (procedure_at (declarations_view c.args.declared.now) c.args.procedure) c.args.count _ _ _ c.parameters_of-parameters.ensures c.result_of-of.ensures (sym c.takes_many.ensures ∙ c.if-takes_many.true) c.written_by.ensures

pub returns : goal.returns
returns c = result_refuses (declarations_view c.args.declared.now) (procedure_at (declarations_view c.args.declared.now) c.args.procedure) c.args.count _ c.parameters_of-parameters.ensures (sym c.takes_many.ensures ∙ c.if-takes_many.false)
