-- The names and the words of the grammar that tokens are.
use Rattle.std.specs.Prelude.{ℕ, Bool, false, List, Option, Some, None}
use Rattle.std.specs.Str.{bytes_eq}
use Rattle.vba_lexer.specs.declared.token.Token.{Token}
use Rattle.vba_words.specs.declared.identifier.Identifier.{Identifier}
use Rattle.vba_words.specs.declared.reading.Reading.{Reading}
use Rattle.vba_words.specs.declared.reading.Reading.TheVariants as reading
use Rattle.vba_words.specs.declared.reading.ReadToken.{ReadToken}

-- a name without suffix and brackets that is this word, given by its case fold
abbrev pub is_word : Reading → List ℕ → Bool
is_word (reading.Name name None false) word = bytes_eq name word
is_word _ word = false

-- the token is this word of the grammar, where one may stand
abbrev pub reads_word : ReadToken → List ℕ → Bool
reads_word token word = is_word token.reading word

-- the name that a token is
abbrev pub identifier_of : ReadToken → Option Identifier
identifier_of token = named token.token token.reading
  where
    named : Token → Reading → Option Identifier
    named token (reading.Name name suffix is_bracketed) =
        Some (record { token = token; name = name; suffix = suffix; is_bracketed = is_bracketed })
    named token _ = None
