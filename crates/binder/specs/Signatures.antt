-- Procedures by their use: what is read and what is written where a name stands, and what they take and give.
use Rattle.std.specs.Prelude.{ℕ, Bool, true, false, ◌&&◌, List, Option, Some, None, option_map, option_and_then, if◌then◌else◌}
use Rattle.vba_values.specs.Types.{Declared}
use Rattle.vba_values.specs.Types as type
use Rattle.vba_words.specs.declared.identifier.Identifier.{Identifier}
use Rattle.vba_tree.specs.declared.procedure.ProcedureWords.{ProcedureWords}
use Rattle.bound_project.specs.Project.{Parameter}
use Rattle.binder.specs.Declarations.{Written, What, a_procedure, Entry}
use Rattle.binder.specs.Scopes.{Space, Scope, is_named, first_at}
use Rattle.binder.specs.Classes.{reaches}
use Rattle.binder.specs.Names.{scope_in}
use Rattle.binder.specs.Constants.{home}
use Rattle.binder.specs.Storage.{result_type, parameters_of, gives_value}
use Rattle.vba_tree.specs.declared.procedure.ProcedureWords.TheVariants as words

abbrev pub is_get : ProcedureWords → Bool
is_get (words.PropertyGet property_word get_word) = true
is_get kind = false

abbrev pub is_let : ProcedureWords → Bool
is_let (words.PropertyLet property_word let_word) = true
is_let kind = false

abbrev pub is_set : ProcedureWords → Bool
is_set (words.PropertySet property_word set_word) = true
is_set kind = false

abbrev pub is_property : ProcedureWords → Bool
is_property (words.Sub token) = false
is_property (words.Function token) = false
is_property kind = true

abbrev pub procedure_of : What → Option Written
procedure_of (a_procedure p) = Some p
procedure_of what = None

-- a procedure of a module that passes, by its name
abbrev pub procedure_with : Scope → (ProcedureWords → Bool) → Space → Identifier → Option (ℕ × Written)
procedure_with s test space x =
    option_and_then (λ f. option_map (λ p. (f.0, p)) (procedure_of f.1.what))
    (first_at (λ (e : Entry). is_named x.name e.name && (reaches s space e && passes e.what)) 0 space.entries)
  where
    passes : What → Bool
    passes (a_procedure p) = test p.kind
    passes what = false

-- what is called where a value is wanted: of a property its Get
abbrev pub reader : Scope → Space → ℕ → Written → Option (ℕ × Written)
reader s space number p = if is_property p.kind then procedure_with s is_get space p.name else Some (number, p)

abbrev pub writer : Scope → Space → Written → Option (ℕ × Written)
writer s space p = procedure_with s is_let space p.name

abbrev pub setter : Scope → Space → Written → Option (ℕ × Written)
setter s space p = procedure_with s is_set space p.name

abbrev pub parameters_in : Scope → Space → Written → List Parameter
parameters_in s space p = parameters_of (scope_in (home s space) p) p

abbrev pub call_type : Scope → Space → Written → Declared
call_type s space p = if gives_value p.kind then result_type (home s space) p else type.variant
