-- Trees of expressions.
use Rattle.std.specs.Prelude.{Option}
use Rattle.vba_lexer.specs.declared.token.Token.{Token}
use Rattle.vba_words.specs.declared.identifier.Identifier.{Identifier}
use Rattle.vba_expression.specs.declared.operator.UnaryOperator.{UnaryOperator}
use Rattle.vba_expression.specs.declared.operator.BinaryOperator.{BinaryOperator}
use Rattle.vba_expression.specs.declared.tree.Literal.{Literal}
use Rattle.vba_expression.specs.declared.tree.TypeName.{TypeName}

mutual
  -- an expression with its tokens
  pub data Expr : Type 0 where
    literal : Literal → Expr
    me : Token → Expr
    name : Identifier → Expr
    -- `.member` of a With block
    with_member : Token → Identifier → Expr
    -- what stands before the dot, the dot, the member
    member : Expr → Token → Identifier → Expr
    -- what stands before the bracket, and the arguments between `(` and `)`
    index : Expr → Token → Args → Token → Expr
    parenthesised : Token → Expr → Token → Expr
    new : Token → TypeName → Expr
    -- TypeOf, its operand, Is, the type
    type_of : Token → Expr → Token → TypeName → Expr
    unary : UnaryOperator → Token → Expr → Expr
    binary : Expr → BinaryOperator → Token → Expr → Expr

  -- arguments, from the left: those before, and one more with the comma before it
  pub data Args : Type 0 where
    no_args : Args
    missing : Args → Option Token → Args
    plain : Args → Option Token → Expr → Args
    named : Args → Option Token → Identifier → Token → Expr → Args
