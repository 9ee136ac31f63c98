-- The tokens of an expression, in order, as the grammar reads them: the one definition that ties trees to text.
use Rattle.std.specs.Prelude.{List, [], ◌∷◌, ◌++◌, Option, Some, None}
use Rattle.vba_lexer.specs.declared.token.Token.{Token}
use Rattle.vba_words.specs.declared.identifier.Identifier.{Identifier}
use Rattle.vba_words.specs.declared.keyword.Keyword.TheVariants as keyword
use Rattle.vba_words.specs.declared.mark.Mark.TheVariants as mark
use Rattle.vba_words.specs.declared.reading.Reading.{Reading}
use Rattle.vba_words.specs.declared.reading.Reading.TheVariants as reading
use Rattle.vba_words.specs.declared.reading.ReadToken.{ReadToken}
use Rattle.vba_words.specs.Spelling.{read, word, marked, naming}
use Rattle.vba_expression.specs.declared.operator.UnaryOperator.{UnaryOperator}
use Rattle.vba_expression.specs.declared.operator.UnaryOperator.TheVariants as unary
use Rattle.vba_expression.specs.declared.operator.BinaryOperator.{BinaryOperator}
use Rattle.vba_expression.specs.declared.operator.BinaryOperator.TheVariants as op
use Rattle.vba_expression.specs.declared.tree.LiteralValue.{LiteralValue}
use Rattle.vba_expression.specs.declared.tree.LiteralValue.TheVariants as value
use Rattle.vba_expression.specs.declared.tree.TypeQualifier.{TypeQualifier}
use Rattle.vba_expression.specs.declared.tree.TypeName.{TypeName}
use Rattle.vba_expression.specs.Tree.{Expr, literal, me, name, with_member, member, index, parenthesised, new, type_of, unary, binary, Args, no_args, missing, plain, named}

-- how a literal is read
abbrev pub literal_reading : LiteralValue → Reading
literal_reading (value.Number number is_plain) = reading.Number number is_plain
literal_reading (value.Text text) = reading.Text text
literal_reading value.True = reading.Keyword keyword.True
literal_reading value.False = reading.Keyword keyword.False
literal_reading value.Nothing = reading.Keyword keyword.Nothing
literal_reading value.Null = reading.Keyword keyword.Null
literal_reading value.Empty = reading.Keyword keyword.Empty

-- how an operator is read
abbrev pub unary_reading : UnaryOperator → Reading
unary_reading unary.Minus = reading.Mark mark.Minus
unary_reading unary.Not = reading.Keyword keyword.Not

abbrev pub binary_reading : BinaryOperator → Reading
binary_reading op.Power = reading.Mark mark.Caret
binary_reading op.Multiply = reading.Mark mark.Times
binary_reading op.Divide = reading.Mark mark.Slash
binary_reading op.IntegerDivide = reading.Mark mark.Backslash
binary_reading op.Modulo = reading.Keyword keyword.Mod
binary_reading op.Add = reading.Mark mark.Plus
binary_reading op.Subtract = reading.Mark mark.Minus
binary_reading op.Join = reading.Mark mark.Ampersand
binary_reading op.Equal = reading.Mark mark.Equal
binary_reading op.NotEqual = reading.Mark mark.NotEqual
binary_reading op.Less = reading.Mark mark.Less
binary_reading op.Greater = reading.Mark mark.Greater
binary_reading op.LessEqual = reading.Mark mark.LessEqual
binary_reading op.GreaterEqual = reading.Mark mark.GreaterEqual
binary_reading op.Is = reading.Keyword keyword.Is
binary_reading op.And = reading.Keyword keyword.And
binary_reading op.Or = reading.Keyword keyword.Or
binary_reading op.Xor = reading.Keyword keyword.Xor
binary_reading op.Eqv = reading.Keyword keyword.Eqv
binary_reading op.Imp = reading.Keyword keyword.Imp

-- the tokens of a type's name: `N` or `N.N`
abbrev pub type_name_tokens : TypeName → List ReadToken
type_name_tokens class = behind class.qualifier class.name
  where
    behind : Option TypeQualifier → Identifier → List ReadToken
    behind None last = naming last ∷ []
    behind (Some qualifier) last = naming qualifier.name ∷ marked qualifier.dot mark.Dot ∷ naming last ∷ []

-- the comma before an argument
abbrev pub comma_tokens : Option Token → List ReadToken
comma_tokens None = []
comma_tokens (Some comma) = marked comma mark.Comma ∷ []

abbrev mutual
  -- the tokens of an expression
  pub spell : Expr → List ReadToken
  spell (literal l) = read l.token (literal_reading l.value) ∷ []
  spell (me token) = word token keyword.Me ∷ []
  spell (name identifier) = naming identifier ∷ []
  spell (with_member dot identifier) = marked dot mark.WithDot ∷ naming identifier ∷ []
  spell (member base dot identifier) = spell base ++ marked dot mark.Dot ∷ naming identifier ∷ []
  spell (index base left arguments right) =
      spell base ++ marked left mark.LeftParenthesis ∷ (spell_args arguments ++ marked right mark.RightParenthesis ∷ [])
  spell (parenthesised left inner right) =
      marked left mark.LeftParenthesis ∷ (spell inner ++ marked right mark.RightParenthesis ∷ [])
  spell (new new_word class) = word new_word keyword.New ∷ type_name_tokens class
  spell (type_of type_of_word operand is_word class) =
      word type_of_word keyword.TypeOf ∷ (spell operand ++ word is_word keyword.Is ∷ type_name_tokens class)
  spell (unary operator token operand) = read token (unary_reading operator) ∷ spell operand
  spell (binary left operator token right) = spell left ++ read token (binary_reading operator) ∷ spell right

  -- the tokens of arguments
  pub spell_args : Args → List ReadToken
  spell_args no_args = []
  spell_args (missing before comma) = spell_args before ++ comma_tokens comma
  spell_args (plain before comma e) = spell_args before ++ (comma_tokens comma ++ spell e)
  spell_args (named before comma identifier colon_equal e) =
      spell_args before ++ (comma_tokens comma ++ naming identifier ∷ marked colon_equal mark.ColonEqual ∷ spell e)
