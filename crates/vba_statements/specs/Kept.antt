-- Serves the code: the kept words that statements begin with.
use Rattle.std.specs.Prelude.{List, codes, Option, Some, None}
use Rattle.vba_lexer.specs.declared.token.Token.{Token}
use Rattle.vba_words.specs.declared.identifier.Identifier.{Identifier}
use Rattle.vba_words.specs.declared.keyword.Keyword.{Keyword}
use Rattle.vba_words.specs.declared.keyword.Keyword.TheVariants as keyword
use Rattle.vba_words.specs.declared.reading.Reading.{Reading}
use Rattle.vba_words.specs.declared.reading.Reading.TheVariants as reading
use Rattle.vba_words.specs.declared.reading.ReadToken.{ReadToken}
use Rattle.vba_tree.specs.declared.declaration.VariableWord.{VariableWord}
use Rattle.vba_tree.specs.Tree.{Simple, BlockLine, block_line, select_case, for_line}
use Rattle.vba_grammar.specs.Front.{Found, ◌>>=◌, found_as, is_to, token_at, reads, whole_at, part_if}
use Rattle.vba_grammar.specs.Blocks.{is_case, step_at}
use Rattle.vba_grammar.specs.Statements.{variable_word_of, declared_at}

-- a kept word but Me, which begins a place
abbrev pub unless_me : Keyword → Option Keyword
unless_me keyword.Me = None
unless_me kept = Some kept

-- the kept word that a statement begins with
abbrev pub first_word : Reading → Option Keyword
first_word (reading.Keyword kept) = unless_me kept
first_word _ = None

-- behind a kept word that begins a statement only where it declares something
abbrev pub declaration_at : Token → Keyword → List ReadToken → Found Simple
declaration_at token kept ts = at (variable_word_of kept)
  where
    at : Option VariableWord → Found Simple
    at None = None
    at (Some word) = declared_at token kept word ts

-- behind Select
abbrev pub select_at : Token → List ReadToken → Found Simple
select_at select_word ts =
    token_at is_case ts >>= λ case_word rest. found_as (λ e. block_line (select_case select_word case_word e)) (whole_at rest)

-- behind For, the counter and `=`: the start and the limit
abbrev pub for_range_at : Token → Identifier → Token → List ReadToken → Found BlockLine
for_range_at for_word counter equal ts =
    whole_at ts >>= λ start rest. token_at is_to rest >>= λ to_word rest2. whole_at rest2 >>= λ limit rest3.
    found_as (for_line for_word counter equal start to_word limit) (part_if (reads (codes "step")) step_at rest3)
