-- Declarations of the bound project, and where variables are kept: counted among those that are declared before them.
use Rattle.std.specs.Prelude.{ℕ, suc, ◌+◌, ◌==◌, Bool, true, false, ◌||◌, not, List, [], ◌∷◌, ◌++◌, length, map, take, Option, Some, None, is_some, if◌then◌else◌}
use Rattle.std.specs.Option.{option_map_or}
use Rattle.vba_values.specs.Types.{Declared}
use Rattle.vba_values.specs.Types as type
use Rattle.vba_values.specs.Val.{Val, missing}
use Rattle.arrays_udt.specs.Fields.{Field}
use Rattle.arrays_udt.specs.Fresh.{initial}
use Rattle.vba_lexer.specs.declared.number.TypeSuffix.{TypeSuffix}
use Rattle.vba_words.specs.declared.identifier.Identifier.{Identifier}
use Rattle.vba_tree.specs.declared.procedure.PassingWord.{PassingWord}
use Rattle.vba_tree.specs.declared.procedure.ProcedureWords.{ProcedureWords}
use Rattle.vba_tree.specs.declared.procedure.ProcedureWords.TheVariants as words
use Rattle.vba_tree.specs.Tree.{Variable, NewTypeClause, TypeClause, Dims, Parameter, ResultType, DefaultValue}
use Rattle.vba_module.specs.Headers.{is_by_value}
use Rattle.bound_project.specs.Expressions.{Storage, local, shared}
use Rattle.bound_project.specs.Project as bound
use Rattle.bound_project.specs.Project.{Declaration, UserType, field_of, is_sub, is_function, is_get, is_let, is_set, no_declaration}
use Rattle.binder.specs.Sources.{spelled}
use Rattle.binder.specs.Declarations.{Written, FieldWritten, What, a_variable, a_type, a_procedure, Entry, Own, the_result, a_parameter, a_local, an_array, undeclared, Local}
use Rattle.binder.specs.Scopes.{Space, Scope, is_same}
use Rattle.binder.specs.Names.{scope_in}
use Rattle.binder.specs.Types.{counted, entries_before, suffix_type, written_type, clause_type}
use Rattle.binder.specs.Constants.{Known, known_value, known_length, known_bounds, coerced, home}

-- ---- types of declarations ([MS-VBAL] 5.2.3.1)

abbrev pub arrayed : Bool → Declared → Declared
arrayed is_array of = if is_array then type.array_of of else of

abbrev pub new_clause_type : Scope → Option TypeSuffix → Option NewTypeClause → Declared
new_clause_type s x None = suffix_type x
new_clause_type s x (Some c) = written_type (known_length s) s c.declared_type

abbrev pub plain_clause_type : Scope → Identifier → Option TypeClause → Declared
plain_clause_type s x clause = clause_type (known_length s) s x.suffix clause

abbrev pub declaration : Scope → Identifier → Declared → Option Dims → Declaration
declaration s x of dims = record { name = spelled s.here.source.text x; place = x.token.place; of = arrayed (is_some dims) of; bounds = known_bounds s dims }

abbrev pub declared_variable : Scope → Variable → Declaration
declared_variable s v = declaration s v.name (new_clause_type s v.name.suffix v.type_clause) v.dims

abbrev pub declared_field : Scope → FieldWritten → Declaration
declared_field s f = declaration s f.name (plain_clause_type s f.name (Some f.type_clause)) f.dims

-- the result of a Sub is a Variant that stays Empty
abbrev pub result_type : Scope → Written → Declared
result_type s p = at p.result
  where
    at : Option ResultType → Declared
    at None = suffix_type p.name.suffix
    at (Some r) = arrayed (is_some r.brackets) (written_type (known_length s) s r.declared_type)

abbrev pub gives_value : ProcedureWords → Bool
gives_value (words.Function token) = true
gives_value (words.PropertyGet property_word get_word) = true
gives_value kind = false

abbrev pub declared_result : Scope → Written → Declaration
declared_result s p =
    if gives_value p.kind then record { name = spelled s.here.source.text p.name; place = p.name.token.place; of = result_type s p; bounds = [] }
    else no_declaration

-- ---- Types

abbrev pub types_of_space : Scope → List Entry → List UserType
types_of_space s [] = []
types_of_space s (e ∷ es) = at e.what ++ types_of_space s es
  where
    at : What → List UserType
    at (a_type fields) = record { name = spelled s.here.source.text e.name; fields = map (declared_field s) fields } ∷ []
    at what = []

abbrev pub types_from : Scope → List Space → List UserType
types_from s [] = []
types_from s (space ∷ spaces) = types_of_space (home s space) space.entries ++ types_from s spaces

-- the Types of a project in the order of their numbers
abbrev pub user_types : Scope → List UserType
user_types s = types_from s s.spaces

abbrev pub field_types : Scope → List (List Field)
field_types s = map (λ t. map field_of t.fields) (user_types s)

-- ---- parameters ([MS-VBAL] 5.3.1.5)

abbrev pub takes_value : ProcedureWords → Bool
takes_value (words.PropertyLet property_word let_word) = true
takes_value (words.PropertySet property_word set_word) = true
takes_value kind = false

abbrev pub is_by_val : Option PassingWord → Bool
is_by_val None = false
is_by_val (Some word) = is_by_value word

abbrev pub parameter_type : Scope → Parameter → Declared
parameter_type s p = arrayed (is_some p.brackets) (plain_clause_type s p.name p.type_clause)

-- what an optional parameter has where no argument is given: its default, or Missing, or the first value of its type
abbrev pub not_given_value : Scope → Declared → Val
not_given_value s type.variant = missing
not_given_value s of = initial (field_types s) of

abbrev pub default_value : Scope → Parameter → Val
default_value s p = at p.default
  where
    at : Option DefaultValue → Val
    at None = not_given_value s (parameter_type s p)
    at (Some d) = option_map_or (λ (k : Known). k.value) (coerced (parameter_type s p) (known_value s d.value)) missing

-- the value that a property is given is never by reference
abbrev pub bound_parameter : Scope → (value : Bool) → Parameter → bound.Parameter
bound_parameter s value p = record {
  name = spelled s.here.source.text p.name;
  of = parameter_type s p;
  by_reference = not (value || (is_by_val p.passing || is_some p.param_array_word));
  default = if is_some p.optional_word then Some (default_value s p) else None;
  many = is_some p.param_array_word;
}

abbrev pub bound_parameters : Scope → (takes : Bool) → List Parameter → List bound.Parameter
bound_parameters s takes [] = []
bound_parameters s takes (p ∷ []) = bound_parameter s takes p ∷ []
bound_parameters s takes (p ∷ ps) = bound_parameter s false p ∷ bound_parameters s takes ps

abbrev pub parameters_of : Scope → Written → List bound.Parameter
parameters_of s p = bound_parameters s (takes_value p.kind) p.parameters

-- ---- the variables of a procedure

abbrev pub own_declaration : Scope → Local → Option Declaration
own_declaration s l = at l.own
  where
    at : Own → Option Declaration
    at (a_local v static) = Some (declared_variable s v)
    at (an_array clause static) = Some (record (declaration s l.name (plain_clause_type s l.name clause) None) { of = type.array_of (plain_clause_type s l.name clause) })
    at (undeclared static) = Some (declaration s l.name type.variant None)
    at own = None

abbrev pub is_own : Bool → Local → Bool
is_own wanted l = at l.own
  where
    same : Bool → Bool
    same static = if wanted then static else not static

    at : Own → Bool
    at (a_local v static) = same static
    at (an_array clause static) = same static
    at (undeclared static) = same static
    at own = false

-- those of the frame, and statics
abbrev pub is_framed : Local → Bool
is_framed l = is_own false l

abbrev pub is_static : Local → Bool
is_static l = is_own true l

abbrev pub is_parameter : Local → Bool
is_parameter l = at l.own
  where
    at : Own → Bool
    at (a_parameter p) = true
    at own = false

abbrev pub declarations_if : (Local → Bool) → Scope → List Local → List Declaration
declarations_if test s [] = []
declarations_if test s (l ∷ ls) = if test l then at (own_declaration s l) ++ declarations_if test s ls else declarations_if test s ls
  where
    at : Option Declaration → List Declaration
    at None = []
    at (Some d) = d ∷ []

-- ---- module variables and statics

abbrev pub is_variable : Entry → Bool
is_variable e = at e.what
  where
    at : What → Bool
    at (a_variable v) = true
    at what = false

abbrev pub is_procedure : Entry → Bool
is_procedure e = at e.what
  where
    at : What → Bool
    at (a_procedure p) = true
    at what = false

abbrev pub module_declarations : Scope → List Entry → List Declaration
module_declarations s [] = []
module_declarations s (e ∷ es) = at e.what ++ module_declarations s es
  where
    at : What → List Declaration
    at (a_variable v) = declared_variable s v ∷ []
    at what = []

abbrev pub static_declarations : Scope → List Entry → List Declaration
static_declarations s [] = []
static_declarations s (e ∷ es) = at e.what ++ static_declarations s es
  where
    at : What → List Declaration
    at (a_procedure p) = let s1 = scope_in s p in declarations_if is_static s1 s1.locals
    at what = []

-- what a module adds to the shared list: its variables, unless it is a class, and then its statics
abbrev pub shared_of : Scope → List Declaration
shared_of s = (if s.here.source.is_class then [] else module_declarations s s.here.entries) ++ static_declarations s s.here.entries

abbrev pub shared_from : Scope → List Space → List Declaration
shared_from s [] = []
shared_from s (space ∷ spaces) = shared_of (home s space) ++ shared_from s spaces

-- how many there are before a module
abbrev pub shared_before : Scope → List Space → Space → ℕ
shared_before s [] here = 0
shared_before s (space ∷ spaces) here = if is_same space here then 0 else length (shared_of (home s space)) + shared_before s spaces here

-- a module variable by its entry
abbrev pub module_storage : Scope → Space → ℕ → Storage
module_storage s space number = shared (shared_before s s.spaces space + counted is_variable (take number space.entries))

-- the first static of a procedure by its entry
abbrev pub first_static : Scope → ℕ → ℕ
first_static s number =
    shared_before s s.spaces s.here + (if s.here.source.is_class then 0 else counted is_variable s.here.entries)
    + length (static_declarations s (take number s.here.entries))

-- a name of a procedure by its number, with the first static
abbrev pub own_storage : Scope → (first : ℕ) → ℕ → Own → Storage
own_storage s first number (the_result p) = local 0
own_storage s first number (a_parameter p) = local (suc (counted is_framed s.locals + counted is_parameter (take number s.locals)))
own_storage s first number (a_local v true) = shared (first + counted is_static (take number s.locals))
own_storage s first number (an_array clause true) = shared (first + counted is_static (take number s.locals))
own_storage s first number (undeclared true) = shared (first + counted is_static (take number s.locals))
own_storage s first number own = local (suc (counted is_framed (take number s.locals)))

-- a procedure's number in the project, by its entry
abbrev pub procedure_number : Scope → Space → ℕ → ℕ
procedure_number s space number = entries_before is_procedure s.spaces space number

abbrev pub kind_of : ProcedureWords → bound.ProcedureKind
kind_of (words.Sub token) = is_sub
kind_of (words.Function token) = is_function
kind_of (words.PropertyGet property_word get_word) = is_get
kind_of (words.PropertyLet property_word let_word) = is_let
kind_of (words.PropertySet property_word set_word) = is_set

-- whether an array is declared with bounds
abbrev pub has_bounds : Declaration → Bool
has_bounds d = not (length d.bounds == 0)
