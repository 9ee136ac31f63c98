-- The tokens that trees spell, as the grammar reads them.
use Rattle.vba_lexer.specs.declared.token.Token.{Token}
use Rattle.vba_words.specs.declared.identifier.Identifier.{Identifier}
use Rattle.vba_words.specs.declared.keyword.Keyword.{Keyword}
use Rattle.vba_words.specs.declared.mark.Mark.{Mark}
use Rattle.vba_words.specs.declared.reading.Reading.{Reading}
use Rattle.vba_words.specs.declared.reading.Reading.TheVariants as reading
use Rattle.vba_words.specs.declared.reading.ReadToken.{ReadToken}

-- a token that is read so
abbrev pub read : Token → Reading → ReadToken
read token meant = record { token = token; reading = meant }

-- a token that is this kept word
abbrev pub word : Token → Keyword → ReadToken
word token kept = read token (reading.Keyword kept)

-- a token that is this mark
abbrev pub marked : Token → Mark → ReadToken
marked token meant = read token (reading.Mark meant)

-- the token of a name
abbrev pub naming : Identifier → ReadToken
naming identifier = read identifier.token (reading.Name identifier.name identifier.suffix identifier.is_bracketed)
