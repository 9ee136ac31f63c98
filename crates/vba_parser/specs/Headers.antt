-- Serves the code: events and procedures behind the words that they begin with, where they may stand, and members
-- of Types behind their names.
use Rattle.std.specs.Prelude.{List, Option}
use Rattle.vba_lexer.specs.declared.token.Token.{Token}
use Rattle.vba_words.specs.declared.identifier.Identifier.{Identifier}
use Rattle.vba_words.specs.declared.reading.ReadToken.{ReadToken}
use Rattle.vba_tree.specs.declared.declaration.AccessWord.{AccessWord}
use Rattle.vba_tree.specs.declared.procedure.ProcedureWords.{ProcedureWords}
use Rattle.vba_tree.specs.Tree.{Line, event_line, procedure_header, type_member}
use Rattle.vba_grammar.specs.Front.{◌>>=◌, found_as, is_as, is_left, name_at, part_if, whole_line}
use Rattle.vba_grammar.specs.Clauses.{dims_at, parameters_at, result_type_at, type_clause_at}

-- an event by its name and its parameters
abbrev pub event_of : Option AccessWord → Token → List ReadToken → Option Line
event_of access event_word ts =
    name_at ts >>= λ name rest. whole_line (found_as (event_line access event_word name) (part_if is_left parameters_at rest))

-- a procedure by its name, its parameters and the type of its result
abbrev pub procedure_of : Option AccessWord → Option Token → ProcedureWords → List ReadToken → Option Line
procedure_of access static_word words ts =
    name_at ts >>= λ name rest. part_if is_left parameters_at rest >>= λ parameters rest2.
    whole_line (found_as (procedure_header access static_word words name parameters) (part_if is_as result_type_at rest2))

-- a member of a Type by its bounds and its type
abbrev pub member_of : Identifier → List ReadToken → Option Line
member_of name ts = part_if is_left dims_at ts >>= λ dims rest. whole_line (found_as (type_member name dims) (type_clause_at rest))
