-- The rules on signatures. S31: the procedures of one property have the same parameters and one type of value. S32: a
-- handler has the parameters of its event.
use Rattle.std.specs.Prelude.{ℕ, ◌==◌, Bool, true, false, ◌&&◌, ◌||◌, not, List, [], ◌∷◌, ◌++◌, map, flat_map, codes, Option, Some, None, is_some, bytes_eq, if◌then◌else◌}
use Rattle.std.specs.Bool.{beq}
use Rattle.std.specs.List.{list_any}
use Rattle.vba_base.specs.declared.place.Place.{Place}
use Rattle.vba_base.specs.declared.place.Refusal.{Refusal}
use Rattle.vba_lexer.specs.declared.token.Token.{Token}
use Rattle.vba_values.specs.Coerce.{is_same_type}
use Rattle.vba_values.specs.Types.{Declared}
use Rattle.vba_values.specs.Types as type
use Rattle.vba_words.specs.declared.identifier.Identifier.{Identifier}
use Rattle.vba_tree.specs.declared.procedure.ProcedureWords.{ProcedureWords}
use Rattle.vba_tree.specs.declared.procedure.ProcedureWords.TheVariants as words
use Rattle.vba_tree.specs.Tree.{Variable, NewTypeClause, Parameter, ResultType}
use Rattle.vba_module.specs.Misplaced.{place_if}
use Rattle.vba_module.specs.Verdict.{broken}
use Rattle.bound_declarations.specs.constant_values.specs.declared_names.specs.binder.specs.EventTables.{handler_name}
use Rattle.bound_declarations.specs.constant_values.specs.declared_names.specs.binder.specs.Constants.{home, known_length}
use Rattle.bound_declarations.specs.constant_values.specs.declared_names.specs.binder.specs.Declarations.{Written, What, a_variable, an_event, a_procedure, Entry}
use Rattle.bound_declarations.specs.constant_values.specs.declared_names.specs.binder.specs.Signatures.{is_property}
use Rattle.bound_declarations.specs.constant_values.specs.declared_names.specs.binder.specs.Names.{scope_of, scope_in}
use Rattle.bound_declarations.specs.constant_values.specs.declared_names.specs.binder.specs.Scopes.{Outside, Space, Scope}
use Rattle.bound_declarations.specs.constant_values.specs.declared_names.specs.binder.specs.Storage.{gives_value, is_by_val, plain_clause_type, takes_value}
use Rattle.bound_declarations.specs.constant_values.specs.declared_names.specs.binder.specs.Types.{class_number, suffix_type, written_type}
use Rattle.bound_declarations.specs.constant_values.specs.declared_names.specs.binder.specs.Violations.{first_broken, later, place_of_name, same_name}

-- ---- signatures ([MS-VBAL] 5.3.1.5)

-- how an argument is passed: the declared type, with whether it is one of the elements of an array, and whether it is
-- ByVal, Optional and a ParamArray. Names and defaults say nothing of it
pub record Passed : Type 0 where
  pub of : Declared
  pub is_array : Bool
  pub by_value : Bool
  pub optional : Bool
  pub many : Bool

-- what a property gives or is given, where the type alone counts
abbrev pub value_passed : Declared → Bool → Passed
value_passed of is_array = record { of = of; is_array = is_array; by_value = false; optional = false; many = false }

abbrev pub passed : Scope → (value : Bool) → Parameter → Passed
passed s value p = record {
  of = plain_clause_type s p.name p.type_clause;
  is_array = is_some p.brackets;
  by_value = not value && is_by_val p.passing;
  optional = not value && is_some p.optional_word;
  many = not value && is_some p.param_array_word;
}

-- parameters, of which the last may be the value that a property is given
abbrev pub all_passed : Scope → (takes : Bool) → List Parameter → List Passed
all_passed s takes [] = []
all_passed s takes (p ∷ []) = passed s takes p ∷ []
all_passed s takes (p ∷ ps) = passed s false p ∷ all_passed s takes ps

abbrev pub result_passed : Scope → Written → Passed
result_passed s p = at p.result
  where
    at : Option ResultType → Passed
    at None = value_passed (suffix_type p.name.suffix) false
    at (Some r) = value_passed (written_type (known_length s) s r.declared_type) (is_some r.brackets)

abbrev pub result_if : Bool → Scope → Written → List Passed
result_if true s p = result_passed s p ∷ []
result_if false s p = []

-- the parameters, and behind them the value that is given back; of a Property Let or Set the last parameter is the value
abbrev pub signature : Scope → Written → List Passed
signature s p = all_passed s (takes_value p.kind) p.parameters ++ result_if (gives_value p.kind) s p

abbrev pub same_passed : Passed → Passed → Bool
same_passed p q =
    is_same_type p.of q.of && (beq p.is_array q.is_array && (beq p.by_value q.by_value && (beq p.optional q.optional && beq p.many q.many)))

abbrev pub same_signature : List Passed → List Passed → Bool
same_signature [] [] = true
same_signature (p ∷ ps) (q ∷ qs) = same_passed p q && same_signature ps qs
same_signature ps qs = false

-- ---- S31: the procedures of one property

-- two procedures of properties whose signatures differ, each by its own names
abbrev pub procedures_differ : Scope → What → What → Bool
procedures_differ s (a_procedure p) (a_procedure q) =
    (is_property p.kind && is_property q.kind) && not (same_signature (signature (scope_in s p) p) (signature (scope_in s q) q))
procedures_differ s one other = false

abbrev pub differ : Scope → Entry → Entry → Bool
differ s a b = same_name a.name b.name && procedures_differ s a.what b.what

-- each that differs from an earlier one, at its name
abbrev pub properties_differ : Scope → List Place
properties_differ s = later (differ s) (λ e. place_of_name e.name) [] s.here.entries

-- ---- S32: handlers of events

-- what the parameters of a sheet's Change are: ByVal Target As Range
abbrev pub change_passed : List Passed
change_passed = record { of = type.range; is_array = false; by_value = true; optional = false; many = false } ∷ []

-- whether this is the name of a handler of an event of the source, which has other parameters
abbrev pub is_other : (handler source event : List ℕ) → (given wanted : List Passed) → Bool
is_other handler source event given wanted = bytes_eq handler (handler_name source event) && not (same_signature given wanted)

-- an event of a class
abbrev pub event_differs : Scope → (handler source : List ℕ) → List Passed → Entry → Bool
event_differs s handler source given e = at e.what
  where
    at : What → Bool
    at (an_event ps) = is_other handler source e.name.name given (all_passed s false ps)
    at what = false

-- an event of the class with a number
abbrev pub class_differs : Scope → List Space → ℕ → (handler source : List ℕ) → List Passed → Bool
class_differs s [] number handler source given = false
class_differs s (space ∷ spaces) number handler source given =
    if space.source.is_class && (class_number s.spaces space == number) then list_any (event_differs (home s space) handler source given) space.entries
    else class_differs s spaces number handler source given

-- an event of a type
abbrev pub type_differs : Scope → Declared → (handler source : List ℕ) → List Passed → Bool
type_differs s (type.class number) handler source given = class_differs s s.spaces number handler source given
type_differs s type.worksheet handler source given = is_other handler source (codes "change") given change_passed
type_differs s of handler source given = false

-- an event of a variable WithEvents
abbrev pub source_differs : Scope → (handler : List ℕ) → List Passed → Variable → Bool
source_differs s handler given v = at v.with_events_word v.type_clause
  where
    at : Option Token → Option NewTypeClause → Bool
    at (Some word) (Some c) = type_differs s (written_type (λ e. 0) s c.declared_type) handler v.name.name given
    at word clause = false

abbrev pub entry_differs : Scope → (handler : List ℕ) → List Passed → Entry → Bool
entry_differs s handler given e = at e.what
  where
    at : What → Bool
    at (a_variable v) = source_differs s handler given v
    at what = false

-- the events of a class itself, which have no parameters
abbrev pub own_differs : (handler : List ℕ) → List Passed → Bool
own_differs handler given =
    (bytes_eq handler (codes "class_initialize") || bytes_eq handler (codes "class_terminate")) && not (same_signature given [])

abbrev pub is_sub : ProcedureWords → Bool
is_sub (words.Sub token) = true
is_sub kind = false

abbrev pub handler_differs : Scope → (handler : List ℕ) → List Passed → Bool
handler_differs s handler given = own_differs handler given || list_any (entry_differs s handler given) s.here.entries

abbrev pub is_wrong : Scope → Identifier → Written → Bool
is_wrong s x p = is_sub p.kind && handler_differs s x.name (signature (scope_in s p) p)

-- a Sub of a class that is a handler and has other parameters than the event, at its name
abbrev pub wrong_handler : Scope → Entry → List Place
wrong_handler s e = at e.what
  where
    at : What → List Place
    at (a_procedure p) = place_if (is_wrong s e.name p) (place_of_name e.name)
    at what = []

abbrev pub wrong_handlers : Scope → List Place
wrong_handlers s = if s.here.source.is_class then flat_map (wrong_handler s) s.here.entries else []

-- ---- both rules

abbrev pub signature_faults : Scope → List Refusal
signature_faults s = broken 31 (properties_differ s) ++ broken 32 (wrong_handlers s)

-- the least place in the first module that breaks one of the two
abbrev pub first_signature : Outside → List Space → Option Refusal
first_signature o spaces = first_broken (map (λ (space : Space). signature_faults (scope_of o spaces space)) spaces)
