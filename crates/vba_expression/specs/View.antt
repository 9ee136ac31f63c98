-- The plain trees that the trees stand for.
use Rattle.vba_expression.specs.declared.expression.Expression.{Expression}
use Rattle.vba_expression.specs.declared.expression.Arguments.{Arguments}
use Rattle.vba_expression.specs.Tree.{Expr, Args}
use Rattle.vba_expression.specs.Nodes.{tree_in, arguments_in}

-- the plain tree that an expression stands for
abbrev pub view : Expression → Expr
view e = tree_in e.nodes.items

-- the plain arguments that arguments stand for
abbrev pub arguments_view : Arguments → Args
arguments_view arguments = arguments_in arguments.nodes.items
