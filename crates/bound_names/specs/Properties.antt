-- Serves the code: properties of a module, by their names.
use Rattle.std.specs.Prelude.{◌≡◌, ℕ, Bool, false, ◌&&◌, Option, Some, slice_get}
use Rattle.vba_words.specs.declared.identifier.Identifier.{Identifier}
use Rattle.vba_tree.specs.declared.procedure.ProcedureWords.{ProcedureWords}
use Rattle.bound_members.specs.bound_calls.specs.bound_declarations.specs.constant_values.specs.declared_names.specs.binder.specs.Declarations.{Written, What, a_procedure, Entry}
use Rattle.bound_members.specs.bound_calls.specs.bound_declarations.specs.constant_values.specs.declared_names.specs.binder.specs.Scopes.{Space, Scope, is_named, first_at}
use Rattle.bound_members.specs.bound_calls.specs.bound_declarations.specs.constant_values.specs.declared_names.specs.binder.specs.Signatures.{is_get, is_let, procedure_with, is_set}
use Rattle.bound_members.specs.bound_calls.specs.bound_declarations.specs.constant_values.specs.declared_names.specs.binder.specs.Classes.{reaches}
use Rattle.bound_names.specs.declared.properties.Part.{Part}
use Rattle.bound_names.specs.declared.properties.Part.TheVariants as part

-- which procedure of a property it is
abbrev pub test_of : Part → ProcedureWords → Bool
test_of part.Get = is_get
test_of part.Let = is_let
test_of part.Set = is_set

abbrev pub wants : Part → What → Bool
wants p (a_procedure w) = test_of p w.kind
wants p what = false

abbrev pub first_wanted : Part → Scope → Space → Identifier → Option (ℕ × Entry)
first_wanted p s space x = first_at (λ (e : Entry). is_named x.name e.name && (reaches s space e && wants p e.what)) 0 space.entries

-- the Get, the Let or the Set of a property
abbrev pub property_with : Part → Scope → Space → Identifier → Option (ℕ × Written)
property_with p s space x = procedure_with s (test_of p) space x

-- an entry is this procedure
pub record IsEntry (space : Space) (number : ℕ) (w : Written) : Type 0 where
  pub entry : Entry
  pub at : slice_get space.entries number ≡ Some entry
  pub what : entry.what ≡ a_procedure w
