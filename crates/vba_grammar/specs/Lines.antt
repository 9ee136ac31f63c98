-- Serves the code: reading a line, by its first words.
use Rattle.std.specs.Prelude.{Bool, true, false, ◌&&◌, List, [], ◌∷◌, codes, Option, Some, None, option_map, if◌then◌else◌}
use Rattle.vba_lexer.specs.declared.token.Token.{Token}
use Rattle.vba_lexer.specs.declared.number.TypeSuffix.{TypeSuffix}
use Rattle.vba_words.specs.declared.identifier.Identifier.{Identifier}
use Rattle.vba_words.specs.declared.keyword.Keyword.TheVariants as keyword
use Rattle.vba_words.specs.declared.reading.Reading.{Reading}
use Rattle.vba_words.specs.declared.reading.Reading.TheVariants as reading
use Rattle.vba_words.specs.declared.reading.ReadToken.{ReadToken}
use Rattle.vba_words.specs.Words.{identifier_of}
use Rattle.vba_expression.specs.declared.part.Part.{Part}
use Rattle.vba_expression.specs.declared.part.Part.TheVariants as part
use Rattle.vba_expression.specs.Parts.{part_of}
use Rattle.vba_tree.specs.declared.declaration.Access.{Access}
use Rattle.vba_tree.specs.declared.declaration.AccessWord.{AccessWord}
use Rattle.vba_tree.specs.declared.procedure.ProcedureWords.{ProcedureWords}
use Rattle.vba_tree.specs.declared.procedure.ProcedureWords.TheVariants as words
use Rattle.vba_tree.specs.declared.procedure.ProcedureKind.TheVariants as ends
use Rattle.vba_tree.specs.declared.line.OptionChoice.{OptionChoice}
use Rattle.vba_tree.specs.declared.line.OptionChoice.TheVariants as choice
use Rattle.vba_tree.specs.declared.line.AttributeValue.{AttributeValue}
use Rattle.vba_tree.specs.declared.line.LineLabel.{LineLabel}
use Rattle.vba_tree.specs.declared.line.LineLabel.TheVariants as line_label
use Rattle.vba_tree.specs.Forms.{may_be_attribute, before_type, before_event, before_procedure}
use Rattle.vba_tree.specs.Tree.{Line, option_line, attribute_line, enum_header, end_enum, type_header, type_member, end_type, event_line, procedure_header, procedure_end, statement_line}
use Rattle.vba_grammar.specs.Front.{Found, ◌>>=◌, or_else, found_as, is_as, is_left, is_equal, is_dot, is_colon, begins, token_at, token_if, reads, name_at, part_if, listed_at, commas_at, whole_line}
use Rattle.vba_grammar.specs.Clauses.{dims_at, type_clause_at, parameters_at, result_type_at, access_if}
use Rattle.vba_grammar.specs.Blocks.{is_name}
use Rattle.vba_grammar.specs.Statements.{is_digit, is_minus}
use Rattle.vba_grammar.specs.Lists.{statements_of}

abbrev pub is_option : Reading → Bool
is_option (reading.Keyword keyword.Option) = true
is_option _ = false

abbrev pub is_private : Reading → Bool
is_private (reading.Keyword keyword.Private) = true
is_private _ = false

-- behind Option
abbrev pub choice_of : List ReadToken → Option OptionChoice
choice_of (first ∷ []) = if reads (codes "explicit") first.reading then Some (choice.Explicit first.token) else None
choice_of (first ∷ second ∷ []) =
    if reads (codes "base") first.reading then based
    else if reads (codes "compare") first.reading then compared
    else if is_private first.reading && reads (codes "module") second.reading then Some (choice.PrivateModule first.token second.token)
    else None
  where
    based : Option OptionChoice
    based =
        if is_digit 0 second then Some (choice.BaseZero first.token second.token)
        else if is_digit 1 second then Some (choice.BaseOne first.token second.token)
        else None

    compared : Option OptionChoice
    compared =
        if reads (codes "binary") second.reading then Some (choice.CompareBinary first.token second.token)
        else if reads (codes "text") second.reading then Some (choice.CompareText first.token second.token)
        else None
choice_of _ = None

-- a value of an attribute
abbrev pub attribute_value_at : List ReadToken → Found AttributeValue
attribute_value_at ts = behind (token_if is_minus ts)
  where
    literal : Option Token → ReadToken → List ReadToken → Part → Found AttributeValue
    literal minus t rest (part.Literal value) =
        if may_be_attribute minus value then Some (record { minus = minus; literal = record { token = t.token; value = value } }, rest) else None
    literal minus t rest _ = None

    behind : Option Token × List ReadToken → Found AttributeValue
    behind (minus, []) = None
    behind (minus, t ∷ rest) = literal minus t rest (part_of t)

-- behind Attribute
abbrev pub attribute_of : Token → List ReadToken → Option Line
attribute_of attribute_word ts =
    listed_at is_dot name_at ts >>= λ names rest. token_at is_equal rest >>= λ equal rest2.
    whole_line (found_as (attribute_line attribute_word names equal) (commas_at attribute_value_at rest2))

-- what a line is by its first words, behind a word of access and Static where they are written
pub data Header : Type 0 where
  of_enum : Token → Header
  of_type : Token → Header
  of_event : Token → Header
  of_procedure : ProcedureWords → Header

-- Property, and Get, Let or Set before a name
abbrev pub property_of : Token → Token → Reading → Option ProcedureWords
property_of property_word token (reading.Keyword keyword.Let) = Some (words.PropertyLet property_word token)
property_of property_word token (reading.Keyword keyword.Set) = Some (words.PropertySet property_word token)
property_of property_word token meant = if reads (codes "get") meant then Some (words.PropertyGet property_word token) else None

abbrev pub property_at : Token → List ReadToken → Found ProcedureWords
property_at property_word [] = None
property_at property_word (t ∷ ts) =
    if begins is_name ts then with_words (property_of property_word t.token t.reading) else None
  where
    with_words : Option ProcedureWords → Found ProcedureWords
    with_words None = None
    with_words (Some found) = Some (found, ts)

abbrev pub kind_at : List ReadToken → Found Header
kind_at [] = None
kind_at (t ∷ ts) = at t.reading
  where
    at : Reading → Found Header
    at (reading.Keyword keyword.Enum) = Some (of_enum t.token, ts)
    at (reading.Keyword keyword.Type) = Some (of_type t.token, ts)
    at (reading.Keyword keyword.Event) = Some (of_event t.token, ts)
    at (reading.Keyword keyword.Sub) = Some (of_procedure (words.Sub t.token), ts)
    at (reading.Keyword keyword.Function) = Some (of_procedure (words.Function t.token), ts)
    at meant = if reads (codes "property") meant then found_as of_procedure (property_at t.token ts) else None

abbrev pub allowed : (Access → Bool) → Option AccessWord → Bool
allowed may_stand None = true
allowed may_stand (Some word) = may_stand word.access

abbrev pub is_missing : Option Token → Bool
is_missing None = true
is_missing (Some token) = false

-- a header of an Enum, a Type, an event or a procedure
abbrev pub header_of : Option AccessWord → Option Token → Header → List ReadToken → Option Line
header_of access static_word (of_enum enum_word) ts =
    if allowed before_type access && is_missing static_word then
    whole_line (found_as (λ name. enum_header (record { access = access; enum_word = enum_word; name = name })) (name_at ts))
    else None
header_of access static_word (of_type type_word) ts =
    if allowed before_type access && is_missing static_word then
    whole_line (found_as (λ name. type_header (record { access = access; type_word = type_word; name = name })) (name_at ts))
    else None
header_of access static_word (of_event event_word) ts =
    if allowed before_event access && is_missing static_word then
    (name_at ts >>= λ name rest. whole_line (found_as (event_line access event_word name) (part_if is_left parameters_at rest)))
    else None
header_of access static_word (of_procedure kind) ts =
    if allowed before_procedure access then
    (name_at ts >>= λ name rest. part_if is_left parameters_at rest >>= λ parameters rest2.
    whole_line (found_as (procedure_header access static_word kind name parameters) (part_if is_as result_type_at rest2)))
    else None

-- the end of a procedure, an Enum or a Type, behind End
abbrev pub end_of : Token → Token → Reading → Option Line
end_of end_word token (reading.Keyword keyword.Enum) = Some (end_enum end_word token)
end_of end_word token (reading.Keyword keyword.Type) = Some (end_type end_word token)
end_of end_word token (reading.Keyword keyword.Sub) = Some (procedure_end (record { end_word = end_word; kind = ends.Sub; kind_word = token }))
end_of end_word token (reading.Keyword keyword.Function) = Some (procedure_end (record { end_word = end_word; kind = ends.Function; kind_word = token }))
end_of end_word token meant =
    if reads (codes "property") meant then Some (procedure_end (record { end_word = end_word; kind = ends.Property; kind_word = token })) else None

-- a member of a Type
abbrev pub member_of_type : List ReadToken → Option Line
member_of_type ts =
    name_at ts >>= λ name rest. part_if is_left dims_at rest >>= λ dims rest2. whole_line (found_as (type_member name dims) (type_clause_at rest2))

-- an As stands before the first colon
abbrev pub has_as : List ReadToken → Bool
has_as [] = false
has_as (t ∷ ts) = if is_as t.reading then true else if is_colon t.reading then false else has_as ts

-- a label at the front, where one stands there
abbrev pub label_if : List ReadToken → Option LineLabel × List ReadToken
label_if [] = (None, [])
label_if (t ∷ ts) = at t.reading (identifier_of t)
  where
    numbered : Option Token × List ReadToken → Reading → Option LineLabel × List ReadToken
    numbered colon (reading.Number number is_plain) = (Some (line_label.Number t.token number colon.0), colon.1)
    numbered colon _ = (None, t ∷ ts)

    named : Identifier → Option TypeSuffix → Option Token × List ReadToken → Option LineLabel × List ReadToken
    named identifier None (Some colon, rest) = (Some (line_label.Name identifier colon), rest)
    named identifier suffix _ = (None, t ∷ ts)

    at : Reading → Option Identifier → Option LineLabel × List ReadToken
    at (reading.Number number true) found = numbered (token_if is_colon ts) (reading.Number number true)
    at _ None = (None, t ∷ ts)
    at _ (Some identifier) = named identifier identifier.suffix (token_if is_colon ts)

-- a label where one stands, and statements
abbrev pub statements_line : List ReadToken → Option Line
statements_line ts = at (label_if ts)
  where
    at : Option LineLabel × List ReadToken → Option Line
    at labelled = option_map (statement_line labelled.0) (statements_of labelled.1)

-- a line that begins with no word of its own
abbrev pub other_line : List ReadToken → Option Line
other_line ts = if begins is_name ts && has_as ts then member_of_type ts else statements_line ts

-- the line that begins with words of a header, else another one
abbrev pub headed : Option AccessWord → Option Token → Found Header → List ReadToken → Option Line
headed access static_word None ts = other_line ts
headed access static_word (Some found) ts = header_of access static_word found.0 found.1

abbrev pub is_static : Reading → Bool
is_static (reading.Keyword keyword.Static) = true
is_static _ = false

abbrev pub header_or_other : List ReadToken → Option Line
header_or_other ts = behind (access_if ts)
  where
    with_static : Option AccessWord → Option Token × List ReadToken → Option Line
    with_static access static_word = headed access static_word.0 (kind_at static_word.1) ts

    behind : Option AccessWord × List ReadToken → Option Line
    behind access = with_static access.0 (token_if is_static access.1)

-- behind End: an end of a procedure, an Enum or a Type, or statements
abbrev pub ended : Token → List ReadToken → Option Line
ended end_word (t ∷ []) = or_else (end_of end_word t.token t.reading) None
ended end_word _ = None

abbrev pub is_end : Reading → Bool
is_end (reading.Keyword keyword.End) = true
is_end _ = false

-- the tree of a line
abbrev pub line_of : List ReadToken → Option Line
line_of [] = statements_line []
line_of (t ∷ ts) =
    if is_option t.reading then option_map (λ c. option_line (record { option_word = t.token; choice = c })) (choice_of ts)
    else if reads (codes "attribute") t.reading && begins is_name ts then attribute_of t.token ts
    else if is_end t.reading then or_else (ended t.token ts) (statements_line (t ∷ ts))
    else header_or_other (t ∷ ts)
