use Rattle.declared_names.specs.View.{scope_view}
use Rattle.constant_values.specs.View.{names_view}
use Rattle.constant_values.proofs.evaluate.pop_value.Goals as goal

pub returns-clause-stack : goal.returns-clause-stack
returns-clause-stack c = c.pop-item.ensures.stack (names_view c.args.names) (scope_view c.args.scope)
