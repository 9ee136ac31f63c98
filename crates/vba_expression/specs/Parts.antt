-- What tokens are in an expression.
use Rattle.vba_lexer.specs.declared.token.Token.{Token}
use Rattle.vba_words.specs.declared.keyword.Keyword.{Keyword}
use Rattle.vba_words.specs.declared.keyword.Keyword.TheVariants as keyword
use Rattle.vba_words.specs.declared.mark.Mark.{Mark}
use Rattle.vba_words.specs.declared.mark.Mark.TheVariants as mark
use Rattle.vba_words.specs.declared.reading.Reading.{Reading}
use Rattle.vba_words.specs.declared.reading.Reading.TheVariants as reading
use Rattle.vba_words.specs.declared.reading.ReadToken.{ReadToken}
use Rattle.vba_expression.specs.declared.operator.BinaryOperator.TheVariants as op
use Rattle.vba_expression.specs.declared.tree.LiteralValue.TheVariants as value
use Rattle.vba_expression.specs.declared.part.Part.{Part}
use Rattle.vba_expression.specs.declared.part.Part.TheVariants as part

-- a kept word
abbrev pub keyword_part : Keyword → Part
keyword_part keyword.True = part.Literal value.True
keyword_part keyword.False = part.Literal value.False
keyword_part keyword.Nothing = part.Literal value.Nothing
keyword_part keyword.Null = part.Literal value.Null
keyword_part keyword.Empty = part.Literal value.Empty
keyword_part keyword.Me = part.Me
keyword_part keyword.New = part.New
keyword_part keyword.TypeOf = part.TypeOf
keyword_part keyword.Not = part.Not
keyword_part keyword.Mod = part.Operator op.Modulo
keyword_part keyword.Is = part.Operator op.Is
keyword_part keyword.And = part.Operator op.And
keyword_part keyword.Or = part.Operator op.Or
keyword_part keyword.Xor = part.Operator op.Xor
keyword_part keyword.Eqv = part.Operator op.Eqv
keyword_part keyword.Imp = part.Operator op.Imp
keyword_part other = part.Outside

-- a mark; the minus of one operand is that of two
abbrev pub mark_part : Mark → Part
mark_part mark.Caret = part.Operator op.Power
mark_part mark.Times = part.Operator op.Multiply
mark_part mark.Slash = part.Operator op.Divide
mark_part mark.Backslash = part.Operator op.IntegerDivide
mark_part mark.Plus = part.Operator op.Add
mark_part mark.Minus = part.Operator op.Subtract
mark_part mark.Ampersand = part.Operator op.Join
mark_part mark.Equal = part.Operator op.Equal
mark_part mark.NotEqual = part.Operator op.NotEqual
mark_part mark.Less = part.Operator op.Less
mark_part mark.Greater = part.Operator op.Greater
mark_part mark.LessEqual = part.Operator op.LessEqual
mark_part mark.GreaterEqual = part.Operator op.GreaterEqual
mark_part mark.LeftParenthesis = part.LeftParenthesis
mark_part mark.RightParenthesis = part.RightParenthesis
mark_part mark.Comma = part.Comma
mark_part mark.Dot = part.Dot
mark_part mark.WithDot = part.WithDot
mark_part mark.ColonEqual = part.ColonEqual
mark_part other = part.Outside

-- a token with this reading
abbrev pub reading_part : Token → Reading → Part
reading_part token (reading.Keyword kept) = keyword_part kept
reading_part token (reading.Name name suffix is_bracketed) =
    part.Name (record { token = token; name = name; suffix = suffix; is_bracketed = is_bracketed })
reading_part token (reading.Number number is_plain) = part.Literal (value.Number number is_plain)
reading_part token (reading.Text text) = part.Literal (value.Text text)
reading_part token (reading.Mark meant) = mark_part meant
reading_part token reading.Other = part.Outside

-- what a token is in an expression
abbrev pub part_of : ReadToken → Part
part_of t = reading_part t.token t.reading
