use Rattle.bound_project.specs.View.{declared_view}
use Rattle.static_rules.proofs.Types.{asked}
use Rattle.static_rules.proofs.doubles.is_double.Goals as goal

pub returns : goal.returns
returns c =
    asked c.is_none.result c.args.operator c.static_type.result c.operator_type-left.result c.operator_type-right.result (declared_view c.args.left) (declared_view c.args.right)
    c.is_none.ensures c.static_type.ensures c.operator_type-left.ensures c.operator_type-right.ensures
