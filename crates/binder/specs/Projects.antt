-- What the modules of a project declare, the macro to begin with, and the first rule of names and types that is broken.
use Rattle.std.specs.Prelude.{ℕ, suc, Bool, false, ◌&&◌, not, List, [], ◌∷◌, ◌++◌, map, flat_map, Option, Some, None, bytes_eq, if◌then◌else◌}
use Rattle.std.specs.List.{list_any}
use Rattle.vba_base.specs.declared.place.Refusal.{Refusal}
use Rattle.vba_tree.specs.declared.procedure.ProcedureWords.{ProcedureWords}
use Rattle.vba_module.specs.Headers.{is_required}
use Rattle.bound_project.specs.Project.{Declarations, Procedure, Module, Class}
use Rattle.bound_project.specs.Project as bound
use Rattle.binder.specs.Sources.{Source, base_of, compare_of, spelled}
use Rattle.binder.specs.Options.{or_else}
use Rattle.binder.specs.Declarations.{Written, What, a_procedure, Entry}
use Rattle.binder.specs.Scopes.{Outside, Space, Scope, spaces_from}
use Rattle.binder.specs.Names.{scope_of, scope_in}
use Rattle.binder.specs.Constants.{home}
use Rattle.binder.specs.EventTables.{class_table}
use Rattle.binder.specs.Storage.{kind_of, declared_result, declarations_if, is_framed, user_types, shared_from, procedure_number}
use Rattle.binder.specs.Storage as storage
use Rattle.binder.specs.Violations.{verdict}
use Rattle.binder.specs.LeftOut.{first_left_out}
use Rattle.vba_tree.specs.declared.procedure.ProcedureWords.TheVariants as words

-- the procedures of a module, each by the number of its entry
abbrev pub numbered : ℕ → List Entry → List (ℕ × Written)
numbered number [] = []
numbered number (e ∷ es) = at e.what ++ numbered (suc number) es
  where
    at : What → List (ℕ × Written)
    at (a_procedure p) = (number, p) ∷ []
    at what = []

abbrev pub bound_procedure : Scope → ℕ × Written → Procedure
bound_procedure s p = let s1 = scope_in s p.1 in record {
  name = spelled s.here.source.text p.1.name;
  kind = kind_of p.1.kind;
  in_module = s.here.number;
  place = p.1.place;
  result = declared_result s1 p.1;
  locals = declarations_if is_framed s1 s1.locals;
  parameters = storage.parameters_of s1 p.1;
}

abbrev pub bound_module : Space → Module
bound_module space = record { name = space.name; compare = compare_of space.source; base = base_of space.source }

abbrev pub class_of : Scope → List Class
class_of s = if s.here.source.is_class then class_table s ∷ [] else []

abbrev pub procedures_of : Scope → List Procedure
procedures_of s = map (bound_procedure s) (numbered 0 s.here.entries)

abbrev pub declarations_of : Outside → Scope → List Space → Declarations
declarations_of o s spaces = record {
  modules = map bound_module spaces;
  types = user_types s;
  classes = flat_map (λ space. class_of (home s space)) spaces;
  shared = shared_from s spaces;
  procedures = flat_map (λ space. procedures_of (home s space)) spaces;
}

-- the macro to begin with, by the folds of its module's name and its own
pub record Startup : Type 0 where
  pub module_fold : List ℕ
  pub sub_fold : List ℕ

-- a Sub of that name that can be called without an argument
abbrev pub is_startup : Startup → Written → Bool
is_startup st p = at p.kind
  where
    at : ProcedureWords → Bool
    at (words.Sub token) = bytes_eq p.name.name st.sub_fold && not (list_any is_required p.parameters)
    at kind = false

abbrev pub startup_in : Scope → Startup → List (ℕ × Written) → Option ℕ
startup_in s st [] = None
startup_in s st (p ∷ ps) = if is_startup st p.1 then Some (procedure_number s s.here p.0) else startup_in s st ps

abbrev pub startup_number : Scope → Startup → List Space → Option ℕ
startup_number s st [] = None
startup_number s st (space ∷ spaces) =
    if bytes_eq space.name.fold st.module_fold && not space.source.is_class then startup_in (home s space) st (numbered 0 space.entries)
    else startup_number s st spaces

abbrev pub no_source : Source
no_source = record { is_class = false; text = []; parts = [] }

abbrev pub no_space : Space
no_space = record { number = 0; source = no_source; name = bound.no_name; entries = [] }

-- a macro to begin with that isn't there is told at the front of the project
abbrev pub startup_fault : Outside → List Space → Startup → Option Refusal
startup_fault o spaces st = at (startup_number (scope_of o spaces no_space) st spaces)
  where
    at : Option ℕ → Option Refusal
    at None = Some (record { rule = 33; place = record { «module» = 1; line = 1; column = 1 } })
    at (Some number) = None

-- what is asked where names and types are found: the macro to begin with, which is told at the front of the project and
-- so before all else, and what the language leaves out
abbrev pub static_rule : Outside → List Space → Startup → Option Refusal
static_rule o spaces st = or_else (startup_fault o spaces st) (first_left_out o spaces)

-- the first rule that is broken: of names and types in their modules, and then the first of the others
abbrev pub broken_rule : Outside → List Source → Startup → Option Refusal
broken_rule o sources st = or_else (verdict o sources) (static_rule o (spaces_from 0 sources) st)
