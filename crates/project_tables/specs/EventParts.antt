-- Serves the code: events by their entries, and handlers of a variable.
use Rattle.std.specs.Prelude.{ℕ, Bool, true, false, List, [], ◌∷◌, ◌++◌}
use Rattle.vba_tree.specs.Tree.{Parameter, Variable}
use Rattle.vba_words.specs.declared.identifier.Identifier.{Identifier}
use Rattle.bound_project.specs.Project.{DeclaredEvent, Handler}
use Rattle.bound_declarations.specs.constant_values.specs.declared_names.specs.binder.specs.Classes.{field_number}
use Rattle.bound_declarations.specs.constant_values.specs.declared_names.specs.binder.specs.Declarations.{What, an_event, Entry}
use Rattle.bound_declarations.specs.constant_values.specs.declared_names.specs.binder.specs.EventTables.{event_names, handlers_of}
use Rattle.bound_declarations.specs.constant_values.specs.declared_names.specs.binder.specs.Scopes.{Scope}
use Rattle.bound_declarations.specs.constant_values.specs.declared_names.specs.binder.specs.Sources.{spelled}
use Rattle.bound_declarations.specs.constant_values.specs.declared_names.specs.binder.specs.Storage.{bound_parameters, declared_variable}

-- an event by its name and its parameters
abbrev pub event_as : Scope → Identifier → List Parameter → DeclaredEvent
event_as s x ps = record { name = spelled s.here.source.text x; parameters = bound_parameters s false ps }

-- the folded names of the events among entries
abbrev pub names_in : List Entry → List (List ℕ)
names_in [] = []
names_in (e ∷ es) = at e.what ++ names_in es
  where
    at : What → List (List ℕ)
    at (an_event ps) = e.name.name ∷ []
    at what = []

-- the handlers of a variable, where it is declared WithEvents
abbrev pub handlers_if : Bool → Scope → (number : ℕ) → Identifier → Variable → List Handler
handlers_if false s number x v = []
handlers_if true s number x v = handlers_of s (field_number s.here number) x.name 0 (event_names s (declared_variable s v).of)
