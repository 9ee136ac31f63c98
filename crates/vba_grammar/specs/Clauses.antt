-- Serves the code: reading the parts of declarations: types, bounds, variables, constants, parameters.
use Rattle.std.specs.Prelude.{Bool, true, false, ◌&&◌, ◌||◌, List, [], ◌∷◌, ◌++◌, codes, Option, Some, None, if◌then◌else◌}
use Rattle.vba_lexer.specs.declared.token.Token.{Token}
use Rattle.vba_words.specs.declared.identifier.Identifier.{Identifier}
use Rattle.vba_words.specs.declared.keyword.Keyword.TheVariants as keyword
use Rattle.vba_words.specs.declared.reading.Reading.{Reading}
use Rattle.vba_words.specs.declared.reading.Reading.TheVariants as reading
use Rattle.vba_words.specs.declared.reading.ReadToken.{ReadToken}
use Rattle.vba_expression.specs.declared.tree.TypeName.{TypeName}
use Rattle.vba_expression.specs.Tree.{Expr}
use Rattle.vba_expression.specs.Reader.{short_type, long_type}
use Rattle.vba_tree.specs.declared.declaration.Access.TheVariants as access
use Rattle.vba_tree.specs.declared.declaration.AccessWord.{AccessWord}
use Rattle.vba_tree.specs.declared.declaration.Brackets.{Brackets}
use Rattle.vba_tree.specs.declared.procedure.Passing.TheVariants as passing
use Rattle.vba_tree.specs.declared.procedure.PassingWord.{PassingWord}
use Rattle.vba_tree.specs.Tree.{DeclaredType, named, fixed_text, TypeClause, NewTypeClause, Dim, upper, Dims, Variable, Constant, DefaultValue, Parameter, Parameters, ResultType}
use Rattle.vba_grammar.specs.Front.{Found, ◌>>=◌, or_else, found_as, is_as, is_new, is_to, is_equal, is_times, is_left, is_right, is_comma, is_dot, begins, token_at, token_if, reads, name_at, plain_name_at, whole_at, part_if, before_right, commas_at, ends, is_nothing}

-- a type's name, of two names where a dot and a name stand behind the first; none has a suffix
abbrev pub type_name_at : List ReadToken → Found TypeName
type_name_at ts = plain_name_at ts >>= λ first rest. or_else (dotted first rest) (Some (short_type first, rest))
  where
    dotted : Identifier → List ReadToken → Found TypeName
    dotted first rest = token_at is_dot rest >>= λ dot behind. found_as (long_type first dot) (plain_name_at behind)

-- `String *` stands at the front
abbrev pub is_fixed : List ReadToken → Bool
is_fixed (first ∷ second ∷ ts) = reads (codes "string") first.reading && is_times second.reading
is_fixed ts = false

-- a type
abbrev pub type_at : List ReadToken → Found DeclaredType
type_at ts = if is_fixed ts then fixed_at ts else found_as named (type_name_at ts)
  where
    fixed_at : List ReadToken → Found DeclaredType
    fixed_at ts =
        token_at (reads (codes "string")) ts >>= λ string_word rest. token_at is_times rest >>= λ times behind.
        found_as (fixed_text string_word times) (whole_at behind)

-- As, a type
abbrev pub type_clause_at : List ReadToken → Found TypeClause
type_clause_at ts = token_at is_as ts >>= λ as_word rest. found_as (λ t. record { as_word = as_word; declared_type = t }) (type_at rest)

-- As, New where it is written, a type
abbrev pub new_type_clause_at : List ReadToken → Found NewTypeClause
new_type_clause_at ts = token_at is_as ts >>= λ as_word rest. behind as_word (token_if is_new rest)
  where
    behind : Token → Option Token × List ReadToken → Found NewTypeClause
    behind as_word new = found_as (λ t. record { as_word = as_word; new_word = new.0; declared_type = t }) (type_at new.1)

-- `e` or `e To e`
abbrev pub dim_at : List ReadToken → Found Dim
dim_at ts = whole_at ts >>= λ e rest. if begins is_to rest then ranged e rest else Some (upper e, rest)
  where
    ranged : Expr → List ReadToken → Found Dim
    ranged low ts = token_at is_to ts >>= λ to_word rest. found_as (Dim.range low to_word) (whole_at rest)

-- the bounds of an array, in brackets
abbrev pub dims_at : List ReadToken → Found Dims
dims_at ts =
    token_at is_left ts >>= λ left rest. before_right (commas_at dim_at) rest >>= λ dims behind.
    found_as (λ right. record { left = left; dims = dims; right = right }) (token_at is_right behind)

abbrev pub is_with_events : Reading → Bool
is_with_events (reading.Keyword keyword.WithEvents) = true
is_with_events _ = false

-- a variable
abbrev pub variable_at : List ReadToken → Found Variable
variable_at ts = behind (token_if is_with_events ts)
  where
    behind : Option Token × List ReadToken → Found Variable
    behind word =
        name_at word.1 >>= λ name rest. part_if is_left dims_at rest >>= λ dims rest2.
        found_as (λ clause. record { with_events_word = word.0; name = name; dims = dims; type_clause = clause })
        (part_if is_as new_type_clause_at rest2)

-- the whole of tokens is an expression
abbrev pub only_expression : List ReadToken → Option Expr
only_expression ts = whole_at ts >>= λ e rest. if is_nothing rest then Some e else None

-- a constant or a parameter ends: its list goes on with a comma, or ends
abbrev pub item_ends : List ReadToken → Bool
item_ends ts = ends ts || (begins is_comma ts || begins is_right ts)

-- a length, `=` and a value, where the length ends before this `=`
abbrev pub halves : List ReadToken → Token → List ReadToken → Found (Expr × DefaultValue)
halves before equal ts = first (only_expression before) (whole_at ts)
  where
    both : Expr → Expr → List ReadToken → Found (Expr × DefaultValue)
    both length value rest =
        if item_ends rest then Some ((length, record { equal = equal; value = value }), rest) else None

    first : Option Expr → Found Expr → Found (Expr × DefaultValue)
    first None found = None
    first (Some length) found = found >>= both length

-- the same, where the length ends before the last `=` that allows it
abbrev pub last_halves : List ReadToken → List ReadToken → Found (Expr × DefaultValue)
last_halves before [] = None
last_halves before (t ∷ ts) =
    or_else (last_halves (before ++ t ∷ []) ts) (if is_equal t.reading then halves before t.token ts else None)

-- a type clause that may be missing, and the value behind it
abbrev pub Valued : Type 0
Valued = Option TypeClause × Option DefaultValue

-- `=` and a value
abbrev pub default_at : List ReadToken → Found DefaultValue
default_at ts = token_at is_equal ts >>= λ equal rest. found_as (λ e. record { equal = equal; value = e }) (whole_at rest)

-- As, String and `*`
pub record FixedWords : Type 0 where
  pub as_word : Token
  pub string_word : Token
  pub times : Token

abbrev pub fixed_words_at : List ReadToken → Found FixedWords
fixed_words_at ts =
    token_at is_as ts >>= λ as_word rest. token_at (reads (codes "string")) rest >>= λ string_word behind.
    found_as (λ times. record { as_word = as_word; string_word = string_word; times = times }) (token_at is_times behind)

abbrev pub fixed_clause : FixedWords → Expr → TypeClause
fixed_clause words length = record { as_word = words.as_word; declared_type = fixed_text words.string_word words.times length }

-- `String * e`, its length as long as it can be before a value
abbrev pub before_value : List ReadToken → Found Valued
before_value ts =
    fixed_words_at ts >>= λ words rest. found_as (λ found. (Some (fixed_clause words found.0), Some found.1)) (last_halves [] rest)

-- `String * e` without a value
abbrev pub without_value : List ReadToken → Found Valued
without_value ts =
    fixed_words_at ts >>= λ words rest. whole_at rest >>= λ length behind.
    if item_ends behind then Some ((Some (fixed_clause words length), None), behind) else None

-- the same where the value may be missing: the length is longest without one
abbrev pub with_or_without_value : List ReadToken → Found Valued
with_or_without_value ts = or_else (without_value ts) (before_value ts)

-- a type clause and a value, each where it is written; `String * e` is read in a way of its own
abbrev pub valued_at : (List ReadToken → Found Valued) → List ReadToken → Found Valued
valued_at fixed [] = Some ((None, None), [])
valued_at fixed (t ∷ ts) =
    if is_as t.reading && is_fixed ts then fixed (t ∷ ts)
    else part_if is_as type_clause_at (t ∷ ts) >>= λ clause rest. found_as (λ default. (clause, default)) (part_if is_equal default_at rest)

-- a constant
abbrev pub constant_at : List ReadToken → Found Constant
constant_at ts = name_at ts >>= λ name rest. valued_at before_value rest >>= λ valued behind. with_value name valued.0 valued.1 behind
  where
    with_value : Identifier → Option TypeClause → Option DefaultValue → List ReadToken → Found Constant
    with_value name clause None rest = None
    with_value name clause (Some default) rest =
        Some (record { name = name; type_clause = clause; equal = default.equal; value = default.value }, rest)

abbrev pub is_optional : Reading → Bool
is_optional (reading.Keyword keyword.Optional) = true
is_optional _ = false

abbrev pub is_param_array : Reading → Bool
is_param_array (reading.Keyword keyword.ParamArray) = true
is_param_array _ = false

-- ByVal or ByRef, where one is written
abbrev pub passing_of : Token → Reading → Option PassingWord
passing_of token (reading.Keyword keyword.ByVal) = Some (record { passing = passing.ByVal; token = token })
passing_of token (reading.Keyword keyword.ByRef) = Some (record { passing = passing.ByRef; token = token })
passing_of token _ = None

abbrev pub passing_if : List ReadToken → Option PassingWord × List ReadToken
passing_if [] = (None, [])
passing_if (t ∷ ts) = at (passing_of t.token t.reading)
  where
    at : Option PassingWord → Option PassingWord × List ReadToken
    at None = (None, t ∷ ts)
    at found = (found, ts)

-- `()`
abbrev pub brackets_at : List ReadToken → Found Brackets
brackets_at ts =
    token_at is_left ts >>= λ left rest. found_as (λ right. record { left = left; right = right }) (token_at is_right rest)

-- a parameter
abbrev pub parameter_at : List ReadToken → Found Parameter
parameter_at ts = behind_optional (token_if is_optional ts)
  where
    behind_words : Option Token → Option PassingWord → Option Token × List ReadToken → Found Parameter
    behind_words optional passing array =
        name_at array.1 >>= λ name rest. part_if is_left brackets_at rest >>= λ brackets rest2.
        found_as
        (λ valued. record {
          optional_word = optional;
          passing = passing;
          param_array_word = array.0;
          name = name;
          brackets = brackets;
          type_clause = valued.0;
          default = valued.1;
        })
        (valued_at with_or_without_value rest2)

    behind_passing : Option Token → Option PassingWord × List ReadToken → Found Parameter
    behind_passing optional passing = behind_words optional passing.0 (token_if is_param_array passing.1)

    behind_optional : Option Token × List ReadToken → Found Parameter
    behind_optional optional = behind_passing optional.0 (passing_if optional.1)

-- parameters, in brackets
abbrev pub parameters_at : List ReadToken → Found Parameters
parameters_at ts =
    token_at is_left ts >>= λ left rest. before_right (commas_at parameter_at) rest >>= λ parameters behind.
    found_as (λ right. record { left = left; parameters = parameters; right = right }) (token_at is_right behind)

-- As, the type of a result, and `()` behind it where it is written
abbrev pub result_type_at : List ReadToken → Found ResultType
result_type_at ts =
    token_at is_as ts >>= λ as_word rest. type_at rest >>= λ t behind.
    found_as (λ brackets. record { as_word = as_word; declared_type = t; brackets = brackets }) (part_if is_left brackets_at behind)

-- a word of access
abbrev pub access_of : Token → Reading → Option AccessWord
access_of token (reading.Keyword keyword.Public) = Some (record { access = access.Public; token = token })
access_of token (reading.Keyword keyword.Private) = Some (record { access = access.Private; token = token })
access_of token (reading.Keyword keyword.Friend) = Some (record { access = access.Friend; token = token })
access_of token (reading.Keyword keyword.Global) = Some (record { access = access.Global; token = token })
access_of token _ = None

-- a word of access, where one is written
abbrev pub access_if : List ReadToken → Option AccessWord × List ReadToken
access_if [] = (None, [])
access_if (t ∷ ts) = at (access_of t.token t.reading)
  where
    at : Option AccessWord → Option AccessWord × List ReadToken
    at None = (None, t ∷ ts)
    at found = (found, ts)
