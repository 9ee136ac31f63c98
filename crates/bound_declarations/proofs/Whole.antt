-- A procedure by its own scope is the procedure as its module binds it.
use Rattle.std.proofs.Common.{◌≡◌, ℕ, refl}
use Rattle.constant_values.specs.declared_names.specs.binder.specs.Declarations.{Written}
use Rattle.constant_values.specs.declared_names.specs.binder.specs.Scopes.{Scope}
use Rattle.constant_values.specs.declared_names.specs.binder.specs.Names.{scope_in}
use Rattle.constant_values.specs.declared_names.specs.binder.specs.Projects.{bound_procedure}
use Rattle.bound_declarations.specs.Whole.{procedure_in}

pub procedure_in_scope : (s : Scope) (p : ℕ × Written) → procedure_in (scope_in s p.1) p.1 ≡ bound_procedure s p
procedure_in_scope s p = refl
