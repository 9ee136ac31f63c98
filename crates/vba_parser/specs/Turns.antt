-- Serves the code: reading the statements of a line by what each token is between statements.
use Rattle.std.specs.Prelude.{Bool, true, List, [], ◌∷◌, Some, None, if◌then◌else◌}
use Rattle.vba_lexer.specs.declared.token.Token.{Token}
use Rattle.vba_words.specs.declared.keyword.Keyword.TheVariants as keyword
use Rattle.vba_words.specs.declared.mark.Mark.TheVariants as mark
use Rattle.vba_words.specs.declared.reading.Reading.{Reading}
use Rattle.vba_words.specs.declared.reading.Reading.TheVariants as reading
use Rattle.vba_words.specs.declared.reading.ReadToken.{ReadToken}
use Rattle.vba_tree.specs.Tree.{Stmts, nothing, gap}
use Rattle.vba_grammar.specs.Lists.{Where, at_line, in_list, behind, Frame, State, need, got, with_else, is_else_line, Turn, with_tokens, header_at, statement_at}
use Rattle.vba_parser.specs.declared.frame.Cut.{Cut}
use Rattle.vba_parser.specs.declared.frame.Cut.TheVariants as cuts

-- what a token is between statements
abbrev pub cut_of : Reading → Cut
cut_of (reading.Keyword keyword.If) = cuts.If
cut_of (reading.Keyword keyword.Else) = cuts.Else
cut_of (reading.Mark mark.Colon) = cuts.Colon
cut_of _ = cuts.Other

-- what the first token is
abbrev pub cut_at : List ReadToken → Cut
cut_at [] = cuts.Other
cut_at (t ∷ ts) = cut_of t.reading

-- an Else at the front is a line of a block
abbrev pub is_block_else : List ReadToken → Bool
is_block_else [] = true
is_block_else (t ∷ ts) = is_else_line ts

-- an If where a statement may stand
abbrev pub if_at : Where → List Frame → List ReadToken → Turn
if_at place frames [] = None
if_at place frames (t ∷ ts) = header_at place t.token frames ts

-- an Else that goes on with an If
abbrev pub next_list_at : Stmts → List Frame → List ReadToken → Turn
next_list_at ss frames [] = None
next_list_at ss frames (t ∷ ts) = with_tokens ts (with_else ss frames t.token)

-- a colon behind statements
abbrev pub next_place_at : Stmts → List Frame → List ReadToken → Turn
next_place_at ss frames [] = None
next_place_at ss frames (t ∷ ts) = Some (need (behind ss t.token) frames, ts)

-- an Else behind a colon
abbrev pub else_behind : Stmts → Token → List Frame → List ReadToken → Turn
else_behind before colon frames ts =
    if is_block_else ts then statement_at (behind before colon) frames ts else next_list_at (gap before colon) frames ts

-- an Else where a statement may stand
abbrev pub else_at : Where → List Frame → List ReadToken → Turn
else_at at_line frames ts = statement_at at_line frames ts
else_at in_list frames ts = statement_at in_list frames ts
else_at (behind before colon) frames ts = else_behind before colon frames ts

-- a colon where a statement may stand
abbrev pub colon_at : Where → List Frame → List ReadToken → Turn
colon_at at_line frames ts = next_place_at nothing frames ts
colon_at in_list frames ts = statement_at in_list frames ts
colon_at (behind before colon) frames ts = next_place_at (gap before colon) frames ts

-- where a statement may stand
abbrev pub needed_by : Cut → Where → List Frame → List ReadToken → Turn
needed_by cuts.If place frames ts = if_at place frames ts
needed_by cuts.Else place frames ts = else_at place frames ts
needed_by cuts.Colon place frames ts = colon_at place frames ts
needed_by cuts.Other place frames ts = statement_at place frames ts

-- behind a statement
abbrev pub had_by : Cut → Stmts → List Frame → List ReadToken → Turn
had_by cuts.Else ss frames ts = next_list_at ss frames ts
had_by cuts.Colon ss frames ts = next_place_at ss frames ts
had_by _ ss frames ts = None

-- one turn, by what its token is
abbrev pub turn_by : Cut → State → List ReadToken → Turn
turn_by cut (need place frames) ts = needed_by cut place frames ts
turn_by cut (got ss frames) ts = had_by cut ss frames ts
