-- S14: headers of procedures and events, and bounds, of a form that may not be.
use Rattle.std.specs.Prelude.{ℕ, Bool, true, false, ◌&&◌, ◌||◌, not, nat_lt, List, [], ◌∷◌, ◌++◌, length, codes, decimal, bytes_eq, Option, Some, None, is_some, if◌then◌else◌}
use Rattle.std.specs.List.{list_any}
use Rattle.vba_base.specs.declared.place.Place.{Place}
use Rattle.vba_base.specs.Fold.{folded}
use Rattle.vba_lexer.specs.declared.token.Token.{Token}
use Rattle.vba_lexer.specs.declared.number.TypeSuffix.{TypeSuffix}
use Rattle.vba_words.specs.declared.identifier.Identifier.{Identifier}
use Rattle.vba_expression.specs.declared.tree.LiteralValue.{LiteralValue}
use Rattle.vba_expression.specs.declared.tree.LiteralValue.TheVariants as literal
use Rattle.vba_expression.specs.declared.tree.TypeName.{TypeName}
use Rattle.vba_expression.specs.declared.tree.TypeQualifier.{TypeQualifier}
use Rattle.vba_expression.specs.Spelling.{spell as spell_expression}
use Rattle.vba_tree.specs.declared.procedure.Passing.{Passing}
use Rattle.vba_tree.specs.declared.procedure.Passing.TheVariants as passing
use Rattle.vba_tree.specs.declared.procedure.PassingWord.{PassingWord}
use Rattle.vba_tree.specs.declared.procedure.ProcedureWords.{ProcedureWords}
use Rattle.vba_tree.specs.declared.procedure.ProcedureWords.TheVariants as words
use Rattle.vba_tree.specs.declared.line.AttributeValue.{AttributeValue}
use Rattle.vba_tree.specs.Spelling.{spell_parameter, spell_dim}
use Rattle.vba_tree.specs.Tree.{Listed, DeclaredType, named, fixed_text, TypeClause, Dim, Dims, Variable, DefaultValue, Parameter, Parameters, variables, Stmt, simple, if_then, if_else, Stmts, nothing, one, gap, more, Line, attribute_line, type_member, event_line, procedure_header, type_header}
use Rattle.vba_grammar.specs.Front.{or_else}
use Rattle.vba_module.specs.Parts.{Part, label, statement, whole_line, nowhere, first_place, place_of}
use Rattle.vba_module.specs.Misplaced.{place_if}

abbrev pub items_of : {A : Type 0} → List (Token × A) → List A
items_of [] = []
items_of (item ∷ items) = item.1 ∷ items_of items

abbrev pub all_of : {A : Type 0} → Listed A → List A
all_of list = list.first ∷ items_of list.others

-- the parameters of a header
abbrev pub parameters_of : Option Parameters → List Parameter
parameters_of None = []
parameters_of (Some p) = listed p.parameters
  where
    listed : Option (Listed Parameter) → List Parameter
    listed None = []
    listed (Some ps) = all_of ps

abbrev pub place_of_parameter : Parameter → Place
place_of_parameter p = first_place nowhere (spell_parameter p)

-- it must be given: it is neither Optional nor a ParamArray
abbrev pub is_required : Parameter → Bool
is_required p = not (is_some p.optional_word) && not (is_some p.param_array_word)

-- the type Variant, by its name or without a type and a suffix
abbrev pub is_variant : Option TypeSuffix → Option TypeClause → Bool
is_variant suffix None = not (is_some suffix)
is_variant suffix (Some clause) = at clause.declared_type
  where
    plain : Option TypeQualifier → List ℕ → Bool
    plain None name = bytes_eq name (codes "variant")
    plain (Some qualifier) name = false

    at : DeclaredType → Bool
    at (named class) = plain class.qualifier class.name.name
    at (fixed_text string_word times length) = false

-- a ParamArray is the last one, and an array of Variant
abbrev pub param_array_faults : Parameter → List Parameter → List Place
param_array_faults p behind = at p.param_array_word
  where
    at : Option Token → List Place
    at None = []
    at (Some word) =
        place_if (nat_lt 0 (length behind) || (not (is_some p.brackets) || not (is_variant p.name.suffix p.type_clause))) word.place

-- the word ByVal stands before no array and no value of a Type
abbrev pub is_by_value : PassingWord → Bool
is_by_value word = at word.passing
  where
    at : Passing → Bool
    at passing.ByVal = true
    at passing.ByRef = false

abbrev pub is_type_clause : (TypeName → Bool) → Option TypeClause → Bool
is_type_clause is_type None = false
is_type_clause is_type (Some clause) = at clause.declared_type
  where
    at : DeclaredType → Bool
    at (named class) = is_type class
    at (fixed_text string_word times length) = false

abbrev pub by_value_faults : (TypeName → Bool) → Parameter → List Place
by_value_faults is_type p = at p.passing
  where
    at : Option PassingWord → List Place
    at None = []
    at (Some word) = place_if (is_by_value word && (is_some p.brackets || is_type_clause is_type p.type_clause)) word.token.place

-- a default stands on an Optional parameter
abbrev pub default_faults : Parameter → List Place
default_faults p = at p.default
  where
    at : Option DefaultValue → List Place
    at None = []
    at (Some default) = place_if (not (is_some p.optional_word)) (first_place nowhere (spell_expression default.value))

-- the faults of parameters, behind an optional one or not; the last one of a Property Let or Set may be required behind one
abbrev pub parameter_faults : (TypeName → Bool) → Bool → Bool → List Parameter → List Place
parameter_faults is_type takes_value behind_optional [] = []
parameter_faults is_type takes_value behind_optional (p ∷ ps) =
    place_if (behind_optional && (is_required p && not (takes_value && not (nat_lt 0 (length ps))))) (place_of_parameter p)
    ++ (param_array_faults p ps ++ (by_value_faults is_type p ++ (default_faults p
    ++ parameter_faults is_type takes_value (behind_optional || is_some p.optional_word) ps)))

-- the word Property of a Property Let or Set
abbrev pub value_word : ProcedureWords → Option Token
value_word (words.PropertyLet property_word let_word) = Some property_word
value_word (words.PropertySet property_word set_word) = Some property_word
value_word _ = None

abbrev pub value_faults : Option Token → List Parameter → List Place
value_faults (Some word) [] = word.place ∷ []
value_faults word ps = []

-- at most sixty bounds are declared
abbrev pub many : List Dim → List Place
many [] = []
many (dim ∷ dims) = place_if (nat_lt 59 (length dims)) (first_place nowhere (spell_dim dim))

abbrev pub dims_faults : Option Dims → List Place
dims_faults None = []
dims_faults (Some d) = at d.dims
  where
    at : Option (Listed Dim) → List Place
    at None = []
    at (Some ds) = many (all_of ds)

abbrev pub variables_faults : List Variable → List Place
variables_faults [] = []
variables_faults (v ∷ vs) = dims_faults v.dims ++ variables_faults vs

abbrev mutual
  -- bounds of a ReDim may be more: they are told when it runs
  pub statement_faults : Stmt → List Place
  statement_faults (simple (variables word token vs)) = variables_faults (all_of vs)
  statement_faults (simple _) = []
  statement_faults (if_then if_word condition then_word then_list) = list_faults then_list
  statement_faults (if_else if_word condition then_word then_list else_word else_list) = list_faults then_list ++ list_faults else_list

  pub list_faults : Stmts → List Place
  list_faults nothing = []
  list_faults (one s) = statement_faults s
  list_faults (gap before colon) = list_faults before
  list_faults (more before colon s) = list_faults before ++ statement_faults s

-- the places of S14 in a line that is no statements
abbrev pub line_faults : (TypeName → Bool) → Line → List Place
line_faults is_type (procedure_header access static_word kind identifier parameters result_type) =
    value_faults (value_word kind) (parameters_of parameters)
    ++ parameter_faults is_type (is_some (value_word kind)) false (parameters_of parameters)
line_faults is_type (event_line access event_word identifier parameters) = parameter_faults is_type false false (parameters_of parameters)
line_faults is_type (type_member identifier dims type_clause) = dims_faults dims
line_faults is_type _ = []

-- the places of S14 in a part
abbrev pub header_faults : (TypeName → Bool) → Part → List Place
header_faults is_type (label l) = []
header_faults is_type (statement s) = statement_faults s
header_faults is_type (whole_line line) = line_faults is_type line

-- the names of the Types that parts declare
abbrev pub type_names : List Part → List (List ℕ)
type_names [] = []
type_names (whole_line (type_header header) ∷ parts) = header.name.name ∷ type_names parts
type_names (part ∷ parts) = type_names parts

-- the name that an attribute gives its module: a text behind VB_Name
abbrev pub name_given : Listed Identifier → Listed AttributeValue → Option (List ℕ)
name_given names values = at names.others values.first.minus values.first.literal.value
  where
    at : List (Token × Identifier) → Option Token → LiteralValue → Option (List ℕ)
    at [] None (literal.Text text) = if bytes_eq names.first.name (codes "vb_name") then Some (folded text) else None
    at others minus _ = None

-- the name of the module that parts are, where an attribute gives one: the first
abbrev pub module_name : List Part → Option (List ℕ)
module_name [] = None
module_name (whole_line (attribute_line attribute_word names equal values) ∷ parts) = or_else (name_given names values) (module_name parts)
module_name (part ∷ parts) = module_name parts

-- the name of a module that no attribute names: Module and the number of the module
abbrev pub numbered_name : ℕ → List ℕ
numbered_name number = folded (codes "Module" ++ decimal number)

-- the number of the module that parts are: that of their places
abbrev pub module_number : List Part → ℕ
module_number [] = 0
module_number (part ∷ parts) = (place_of part).«module»

-- the name of the module that parts are
abbrev pub own_name : List Part → List ℕ
own_name parts = or_name (module_name parts)
  where
    or_name : Option (List ℕ) → List ℕ
    or_name None = numbered_name (module_number parts)
    or_name (Some name) = name

-- no qualifier, or the name of the module
abbrev pub is_here : List ℕ → Option TypeQualifier → Bool
is_here name None = true
is_here name (Some qualifier) = bytes_eq qualifier.name.name name

-- a type is one of these of a module, by its name alone or behind the module's
abbrev pub is_named : List ℕ → List (List ℕ) → TypeName → Bool
is_named name names class = is_here name class.qualifier && list_any (bytes_eq class.name.name) names
