-- Which trees fit: the levels of operators, and where commas stand.
use Rattle.std.specs.Prelude.{ℕ, ◌<◌, ◌≤◌, ◌≡◌, Bool, true, false, ◌&&◌, Option, Some, None, IfSome}
use Rattle.vba_lexer.specs.declared.token.Token.{Token}
use Rattle.vba_expression.specs.declared.operator.UnaryOperator.{UnaryOperator}
use Rattle.vba_expression.specs.declared.operator.UnaryOperator.TheVariants as unary
use Rattle.vba_expression.specs.declared.operator.BinaryOperator.{BinaryOperator}
use Rattle.vba_expression.specs.declared.operator.BinaryOperator.TheVariants as op
use Rattle.vba_expression.specs.declared.tree.TypeName.{TypeName}
use Rattle.vba_expression.specs.Tree.{Expr, me, name, with_member, member, index, parenthesised, new, type_of, unary, binary, Args, no_args, missing, plain, named}

-- the levels of operators, the tightest first
abbrev pub unary_level : UnaryOperator → ℕ
unary_level unary.Minus = 2
unary_level unary.Not = 9

abbrev pub binary_level : BinaryOperator → ℕ
binary_level op.Power = 1
binary_level op.Multiply = 3
binary_level op.Divide = 3
binary_level op.IntegerDivide = 4
binary_level op.Modulo = 5
binary_level op.Add = 6
binary_level op.Subtract = 6
binary_level op.Join = 7
binary_level op.Equal = 8
binary_level op.NotEqual = 8
binary_level op.Less = 8
binary_level op.Greater = 8
binary_level op.LessEqual = 8
binary_level op.GreaterEqual = 8
binary_level op.Is = 8
binary_level op.And = 10
binary_level op.Or = 11
binary_level op.Xor = 12
binary_level op.Eqv = 13
binary_level op.Imp = 14

-- the level of an expression: that of its outermost operator, and 0 of a primary, which has none
abbrev pub level : Expr → ℕ
level (unary operator token operand) = unary_level operator
level (binary left operator token right) = binary_level operator
level primary = 0

-- is a value missing?
abbrev pub is_none : {A : Type 0} → Option A → Bool
is_none None = true
is_none (Some value) = false

-- one argument that isn't written
abbrev pub is_lone : Args → Bool
is_lone (missing no_args comma) = true
is_lone other = false

-- no argument at all
abbrev pub has_no_arguments : Args → Bool
has_no_arguments no_args = true
has_no_arguments other = false

-- the first argument has no comma before it, each other one has
abbrev pub CommaFits : Args → Option Token → Type 0
CommaFits no_args None = Unit {0}
CommaFits no_args (Some comma) = ⊥
CommaFits before None = ⊥
CommaFits before (Some comma) = Unit {0}

-- no suffix stands on the names of a type
abbrev pub HasPlainNames : TypeName → Type 0
HasPlainNames class = (class.name.suffix ≡ None) × IfSome class.qualifier (λ q. q.name.suffix ≡ None)

-- New or TypeOf with a type of one name: a dot and a name without a suffix behind it belong to the type
abbrev pub has_short_type : Expr → Bool
has_short_type (new word class) = is_none class.qualifier
has_short_type (type_of word operand is_word class) = is_none class.qualifier
has_short_type other = false

abbrev mutual
  -- what stands before a dot or a bracket, and the operand of TypeOf, is a primary; a left operand has its operator's level or a
  -- tighter one, a right operand a tighter one, the operand of Not and of minus its level or a tighter one
  pub Fits : Expr → Type 0
  Fits (member base dot identifier) = (level base ≡ 0) × Fits base × ((has_short_type base && is_none identifier.suffix) ≡ false)
  Fits (index base left arguments right) = (level base ≡ 0) × Fits base × FitsArgs arguments × (is_lone arguments ≡ false)
  Fits (parenthesised left inner right) = Fits inner
  Fits (new new_word class) = HasPlainNames class
  Fits (type_of type_of_word operand is_word class) = (level operand ≡ 0) × Fits operand × HasPlainNames class
  Fits (unary operator token operand) = (level operand ≤ unary_level operator) × Fits operand
  Fits (binary left operator token right) =
      (level left ≤ binary_level operator) × (level right < binary_level operator) × Fits left × Fits right
  Fits other = Unit {0}

  pub FitsArgs : Args → Type 0
  FitsArgs no_args = Unit {0}
  FitsArgs (missing before comma) = FitsArgs before × CommaFits before comma
  FitsArgs (plain before comma e) = FitsArgs before × CommaFits before comma × Fits e
  FitsArgs (named before comma identifier colon_equal e) = FitsArgs before × CommaFits before comma × Fits e

-- a place: a name, Me or a member of a With block, and members and indices of it
abbrev pub is_place : Expr → Bool
is_place (me token) = true
is_place (name identifier) = true
is_place (with_member dot identifier) = true
is_place (member base dot identifier) = is_place base
is_place (index base left arguments right) = is_place base
is_place other = false
