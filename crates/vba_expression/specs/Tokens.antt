-- Serves the code: the tokens that trees keep, in order.
use Rattle.std.specs.Prelude.{List, map}
use Rattle.vba_lexer.specs.declared.token.Token.{Token}
use Rattle.vba_words.specs.declared.reading.ReadToken.{ReadToken}
use Rattle.vba_expression.specs.Tree.{Expr, Args}
use Rattle.vba_expression.specs.Spelling.{spell, spell_args}

-- tokens without what they are for the grammar
abbrev pub bare : List ReadToken → List Token
bare ts = map (λ t. t.token) ts

-- the tokens of an expression
abbrev pub tokens_of : Expr → List Token
tokens_of e = bare (spell e)

-- the tokens of arguments
abbrev pub tokens_of_arguments : Args → List Token
tokens_of_arguments arguments = bare (spell_args arguments)
