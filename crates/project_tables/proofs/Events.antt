-- Events and handlers that are added to tables.
use Rattle.std.proofs.Common.{◌≡◌, ℕ, suc, Bool, true, false, List, [], ◌∷◌, ◌++◌, map, refl, sym, ap, append-nil, append_assoc}
use Rattle.std.specs.Prelude.{codes, if◌then◌else◌, is_some}
use Rattle.std.proofs.lemmas.List.{map-append}
use Rattle.vba_tree.specs.Tree.{Variable}
use Rattle.vba_words.specs.declared.identifier.Identifier.{Identifier}
use Rattle.bound_declarations.specs.constant_values.specs.declared_names.specs.binder.specs.Classes.{field_number}
use Rattle.bound_declarations.specs.constant_values.specs.declared_names.specs.binder.specs.Constants.{home}
use Rattle.bound_declarations.specs.constant_values.specs.declared_names.specs.binder.specs.Declarations.{What, a_variable, a_constant, an_enum, a_member, a_type, an_event, a_procedure, Entry}
use Rattle.bound_declarations.specs.constant_values.specs.declared_names.specs.binder.specs.EventTables as plain
use Rattle.bound_declarations.specs.constant_values.specs.declared_names.specs.binder.specs.EventTables.{event_names, events_of_space, handler_by, handlers_of, handles, has_source, sources_from, handlers_from}
use Rattle.bound_declarations.specs.constant_values.specs.declared_names.specs.binder.specs.Scopes.{Scope, Space, first_at}
use Rattle.bound_declarations.specs.constant_values.specs.declared_names.specs.binder.specs.Storage.{declared_variable}
use Rattle.bound_project.specs.Project as project
use Rattle.bound_project.specs.View.{element_view, event_view, handler_view}
use Rattle.bound_project.specs.declared.declared_type.ElementType.TheVariants as element
use Rattle.bound_project.specs.declared.declarations.DeclaredEvent.{DeclaredEvent}
use Rattle.bound_project.specs.declared.declarations.Handler.{Handler}
use Rattle.project_tables.specs.EventParts.{handlers_if, names_in}

pub events_push : (xs : List DeclaredEvent) (x : DeclaredEvent) → map event_view (xs ++ x ∷ []) ≡ map event_view xs ++ event_view x ∷ []
events_push xs x = map-append event_view xs (x ∷ [])

pub handlers_push : (xs : List Handler) (x : Handler) → map handler_view (xs ++ x ∷ []) ≡ map handler_view xs ++ handler_view x ∷ []
handlers_push xs x = map-append handler_view xs (x ∷ [])

-- ---- an entry before others

pub events_next : (s : Scope) (e : Entry) (es : List Entry) → plain.declared_events s (e ∷ es) ≡ plain.declared_events s (e ∷ []) ++ plain.declared_events s es
events_next s e es = sym (append_assoc _ [] (plain.declared_events s es))

numbers_by : (b : Bool) (n : ℕ) (ns : List ℕ) → (if b then n ∷ ns else ns) ≡ (if b then n ∷ [] else []) ++ ns
numbers_by true n ns = refl
numbers_by false n ns = refl

pub sources_next : (s : Scope) (n : ℕ) (e : Entry) (es : List Entry) → sources_from s n (e ∷ es) ≡ sources_from s n (e ∷ []) ++ sources_from s (suc n) es
sources_next s n e es = numbers_by (has_source e.what) (field_number s.here n) (sources_from s (suc n) es)

pub handlers_next : (s : Scope) (n : ℕ) (e : Entry) (es : List Entry) → handlers_from s n (e ∷ es) ≡ handlers_from s n (e ∷ []) ++ handlers_from s (suc n) es
handlers_next s n e es = sym (append_assoc _ [] (handlers_from s (suc n) es))

-- ---- names of events

abbrev fold_of : project.DeclaredEvent → List ℕ
fold_of e = e.name.fold

names_at : (s : Scope) (x : Identifier) (public : Bool) (w : What) (es : List Entry) → map fold_of (plain.declared_events s es) ≡ names_in es
    → map fold_of (plain.declared_events s (record { name = x; is_public = public; what = w } ∷ es)) ≡ names_in (record { name = x; is_public = public; what = w } ∷ es)
names_at s x public (a_variable v) es h = h
names_at s x public (a_constant c) es h = h
names_at s x public an_enum es h = h
names_at s x public (a_member value steps) es h = h
names_at s x public (a_type fields) es h = h
names_at s x public (an_event ps) es h = ap (λ (names : List (List ℕ)). x.name ∷ names) h
names_at s x public (a_procedure p) es h = h

names_are : (s : Scope) (es : List Entry) → map fold_of (plain.declared_events s es) ≡ names_in es
names_are s [] = refl
names_are s (e ∷ es) = names_at s e.name e.is_public e.what es (names_are s es)

pub names_of_space : (s : Scope) (space : Space) → events_of_space s space ≡ names_in space.entries
names_of_space s space = names_are (home s space) space.entries

-- ---- handlers

-- a sheet raises Change alone
pub change_handled : (s : Scope) (i : ℕ) (x : List ℕ) → handlers_of s i x 0 (event_names s (element_view element.Worksheet)) ≡ handler_by s i 0 (first_at (handles x (codes "change")) 0 s.here.entries)
change_handled s i x = append-nil _

chosen : (b : Bool) (s : Scope) (n : ℕ) (x : Identifier) (v : Variable)
    → (let hs : List project.Handler = handlers_of s (field_number s.here n) x.name 0 (event_names s (declared_variable s v).of) in (if b then hs else []) ++ []) ≡ handlers_if b s n x v
chosen true s n x v = append-nil _
chosen false s n x v = refl

-- those of a variable
pub variable_handled : (s : Scope) (n : ℕ) (x : Identifier) (public : Bool) (v : Variable)
    → handlers_from s n (record { name = x; is_public = public; what = a_variable v } ∷ []) ≡ handlers_if (is_some v.with_events_word) s n x v
variable_handled s n x public v = chosen (is_some v.with_events_word) s n x v
