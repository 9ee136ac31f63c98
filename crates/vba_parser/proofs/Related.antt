-- What is read of a line, by the laws of the grammar.
use Rattle.std.proofs.Common.{◌≡◌, ℕ, List, [], ◌∷◌, Option, Some, None, refl, ap, ◌∙◌}
use Rattle.vba_lexer.specs.declared.token.Token.{Token}
use Rattle.vba_words.specs.declared.context.Context.{Context}
use Rattle.vba_words.specs.declared.reading.ReadToken.{ReadToken}
use Rattle.vba_words.specs.Readings.{read_token, read_behind, context_behind, nothing_before, read_line}
use Rattle.vba_tree.specs.Fitting.{IsReadAs}
use Rattle.vba_tree.specs.Spelling.{spell, tokens_of}
use Rattle.vba_tree.specs.Tree.{Line}
use Rattle.vba_grammar.specs.Lines.{line_of}
use Rattle.vba_grammar.proofs.AllLaws.{lines, no_line}
use Rattle.vba_parser.specs.Parsed.{IsUnspelled}

-- the tree that is found has the tokens and fits
pub is_read : (ts : List ReadToken) (line : Line) → line_of ts ≡ Some line → IsReadAs ts line
is_read ts line h = lines.sound ts line h

-- reading leaves the tokens as they are
bare_behind : (source : List ℕ) (context : Context) (before : Option ReadToken) (tokens : List Token)
    → tokens_of (read_behind source context before tokens) ≡ tokens
bare_behind source context before [] = refl
bare_behind source context before (token ∷ tokens) =
    let next = read_token source context before token in
    ap (λ ts. token ∷ ts) (bare_behind source (context_behind context before next.reading) (Some next) tokens)

-- so the tree has the tokens of the line
pub is_spelled : (source : List ℕ) (tokens : List Token) (line : Line) → line_of (read_line source tokens) ≡ Some line → tokens_of (spell line) ≡ tokens
is_spelled source tokens line h = ap tokens_of (lines.sound (read_line source tokens) line h).same ∙ bare_behind source nothing_before None tokens

-- where none is found none has the tokens
pub is_unspelled : (ts : List ReadToken) → line_of ts ≡ None → IsUnspelled ts
is_unspelled ts h line formed same = no_line ts line h formed same
