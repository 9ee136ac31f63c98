-- The texts of tokens.
use Rattle.std.specs.Prelude.{ℕ, ◌-◌, List, take, drop}
use Rattle.vba_lexer.specs.declared.token.Token.{Token}

-- a token's text: its slice of the source
abbrev pub text_of : List ℕ → Token → List ℕ
text_of source token = take (token.end - token.start) (drop token.start source)
