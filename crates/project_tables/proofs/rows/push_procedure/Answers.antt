use Rattle.bound_declarations.specs.constant_values.specs.declared_names.specs.View.{scope_view}
use Rattle.project_tables.proofs.rows.push_procedure.Goals as goal

pub returns-clause-values : goal.returns-clause-values
returns-clause-values c = λ before. c.in_ok-push_row.ensures.values (scope_view c.args.scope) before c.in_ok-row.ensures.values
