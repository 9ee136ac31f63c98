-- What calls and module variables need of a project.
use Rattle.std.specs.Prelude.{◌≡◌, ℕ, ◌+◌, List, [], ◌∷◌, length, map}
use Rattle.std.specs.declared.alloc.Global.{Global}
use Rattle.std.specs.Prelude.{Vec}
use Rattle.bound_project.specs.Project.{Parameter}
use Rattle.bound_project.specs.View.{parameter_view}
use Rattle.bound_declarations.specs.constant_values.specs.declared_names.specs.binder.specs.Projects.{no_space, numbered}
use Rattle.bound_declarations.specs.constant_values.specs.declared_names.specs.binder.specs.Constants.{home}
use Rattle.bound_declarations.specs.constant_values.specs.declared_names.specs.binder.specs.Declarations.{Written}
use Rattle.bound_declarations.specs.constant_values.specs.declared_names.specs.binder.specs.Names.{scope_of, scope_in}
use Rattle.bound_declarations.specs.constant_values.specs.declared_names.specs.binder.specs.Scopes.{Space, Scope}
use Rattle.bound_declarations.specs.constant_values.specs.declared_names.specs.binder.specs.Storage.{parameters_of, shared_from, shared_of}
use Rattle.bound_declarations.specs.constant_values.specs.declared_names.specs.Outside.{the_outside}
use Rattle.bound_declarations.specs.constant_values.specs.Rounds.{AreNumbered}
use Rattle.project_tables.specs.declared.signing.Signature.{Signature}
use Rattle.project_tables.specs.declared.signing.Signatures.{Signatures}

-- the parameters of a procedure by the number of its entry
pub record Signed : Type 0 where
  pub number : ℕ
  pub parameters : List Parameter

abbrev pub signed_view : Signature → Signed
signed_view x = record { number = x.number; parameters = map parameter_view x.parameters.items }

abbrev pub signed_lists : List (Vec Signature Global) → List (List Signed)
signed_lists of = map (λ signed. map signed_view signed.items) of

abbrev pub signed_of : Scope → ℕ × Written → Signed
signed_of s p = record { number = p.0; parameters = parameters_of (scope_in s p.1) p.1 }

-- those of a module
abbrev pub signed_in : Scope → List Signed
signed_in s = map (signed_of s) (numbered 0 s.here.entries)

-- how many variables are shared before each module, some before the first
abbrev pub befores : Scope → ℕ → List Space → List ℕ
befores s before [] = []
befores s before (space ∷ spaces) = before ∷ befores s (before + length (shared_of (home s space))) spaces

abbrev pub whole_scope : List Space → Scope
whole_scope spaces = scope_of the_outside spaces no_space

pub record AreSignatures (signatures : Signatures) (spaces : List Space) : Type 0 where
  pub numbered : AreNumbered spaces
  pub before : signatures.before.items ≡ befores (whole_scope spaces) 0 spaces
  pub total : signatures.total ≡ length (shared_from (whole_scope spaces) spaces)
  pub of : signed_lists signatures.of.items ≡ map (λ space. signed_in (scope_of the_outside spaces space)) spaces
