-- The events of a class: those that it declares, its WithEvents variables, and the procedures that handle the events of
-- what these have ([MS-VBAL] 5.2.4.3, 5.3.1.8).
use Rattle.std.specs.Prelude.{ℕ, suc, Bool, false, ◌&&◌, List, [], ◌∷◌, ◌++◌, map, codes, Option, Some, None, is_some, if◌then◌else◌}
use Rattle.std.specs.Option.{option_map_or}
use Rattle.vba_values.specs.Types.{Declared}
use Rattle.vba_values.specs.Types as type
use Rattle.vba_tree.specs.Tree.{Variable}
use Rattle.bound_project.specs.Project.{Class, DeclaredEvent, Handler}
use Rattle.binder.specs.Sources.{spelled}
use Rattle.binder.specs.Declarations.{What, a_variable, a_procedure, an_event, Entry}
use Rattle.binder.specs.Scopes.{Space, Scope, is_named, first_at}
use Rattle.binder.specs.Constants.{home}
use Rattle.binder.specs.Classes.{class_space, field_number}
use Rattle.binder.specs.Storage.{bound_parameters, declared_variable, module_declarations, procedure_number}
use Rattle.binder.specs.ClassTables.{is_sub, plain_sub, public_members, default_member, enumerator}

-- the events that a class declares, in order
abbrev pub declared_events : Scope → List Entry → List DeclaredEvent
declared_events s [] = []
declared_events s (e ∷ es) = at e.what ++ declared_events s es
  where
    at : What → List DeclaredEvent
    at (an_event ps) = record { name = spelled s.here.source.text e.name; parameters = bound_parameters s false ps } ∷ []
    at what = []

-- the folded names of the events of what a variable of a type has: a Worksheet has Change
abbrev pub events_of_space : Scope → Space → List (List ℕ)
events_of_space s space = map (λ (e : DeclaredEvent). e.name.fold) (declared_events (home s space) space.entries)

abbrev pub event_names : Scope → Declared → List (List ℕ)
event_names s type.worksheet = codes "change" ∷ []
event_names s (type.class number) = option_map_or (events_of_space s) (class_space s.spaces number) []
event_names s of = []

-- a WithEvents variable
abbrev pub has_source : What → Bool
has_source (a_variable v) = is_some v.with_events_word
has_source what = false

-- the WithEvents variables of a class from an entry on, by their numbers among its variables
abbrev pub sources_from : Scope → (number : ℕ) → List Entry → List ℕ
sources_from s number [] = []
sources_from s number (e ∷ es) = if has_source e.what then field_number s.here number ∷ sources_from s (suc number) es else sources_from s (suc number) es

-- a handler's name: that of the variable, `_` and that of the event
abbrev pub handler_name : (variable event : List ℕ) → List ℕ
handler_name x event = x ++ codes "_" ++ event

-- the Sub that handles an event
abbrev pub handles : (variable event : List ℕ) → Entry → Bool
handles x event e = is_named (handler_name x event) e.name && at e.what
  where
    at : What → Bool
    at (a_procedure p) = is_sub p.kind
    at what = false

abbrev pub handler_by : Scope → (field event : ℕ) → Option (ℕ × Entry) → List Handler
handler_by s i k None = []
handler_by s i k (Some found) = record { field = i; event = k; procedure = procedure_number s s.here found.0 } ∷ []

-- the handlers of a variable's events, from a number on
abbrev pub handlers_of : Scope → (field : ℕ) → (variable : List ℕ) → (event : ℕ) → List (List ℕ) → List Handler
handlers_of s i x k [] = []
handlers_of s i x k (event ∷ events) = handler_by s i k (first_at (handles x event) 0 s.here.entries) ++ handlers_of s i x (suc k) events

abbrev pub variable_handlers : Scope → ℕ → Entry → Variable → List Handler
variable_handlers s number e v = handlers_of s (field_number s.here number) e.name.name 0 (event_names s (declared_variable s v).of)

-- those of all WithEvents variables of a class from an entry on
abbrev pub handlers_from : Scope → (number : ℕ) → List Entry → List Handler
handlers_from s number [] = []
handlers_from s number (e ∷ es) = at e.what ++ handlers_from s (suc number) es
  where
    at : What → List Handler
    at (a_variable v) = if is_some v.with_events_word then variable_handlers s number e v else []
    at what = []

-- ---- the table

-- a class, with its events
abbrev pub class_table : Scope → Class
class_table s = record {
  name = s.here.name;
  fields = module_declarations s s.here.entries;
  initialize = plain_sub s (codes "class_initialize");
  terminate = plain_sub s (codes "class_terminate");
  members = public_members s 0 s.here.entries;
  default = default_member s;
  enumerator = enumerator s;
  events = declared_events s s.here.entries;
  with_events = sources_from s 0 s.here.entries;
  handlers = handlers_from s 0 s.here.entries;
}
