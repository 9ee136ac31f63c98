-- Serves the code: the tokens of statements behind their colons.
use Rattle.std.specs.Prelude.{List, [], ◌∷◌, ◌++◌}
use Rattle.vba_words.specs.declared.mark.Mark.TheVariants.{Colon}
use Rattle.vba_words.specs.declared.reading.ReadToken.{ReadToken}
use Rattle.vba_words.specs.Spelling.{marked}
use Rattle.vba_tree.specs.Spelling.{spell_statement}
use Rattle.vba_tree.specs.View.{Next}

-- the tokens of a statement with the colon before it, or of a colon alone
abbrev pub next_tokens : Next → List ReadToken
next_tokens (Next.written colon statement) = marked colon Colon ∷ spell_statement statement
next_tokens (Next.missing colon) = marked colon Colon ∷ []

abbrev pub all_next_tokens : List Next → List ReadToken
all_next_tokens [] = []
all_next_tokens (next ∷ others) = next_tokens next ++ all_next_tokens others
