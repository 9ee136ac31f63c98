-- Serves the code: what is known of a project.
use Rattle.std.specs.Prelude.{◌≡◌}
use Rattle.binder.specs.Classes.{has_new}
use Rattle.binder.specs.Projects.{declarations_of}
use Rattle.bound_project.specs.View.{declarations_view}
use Rattle.bound_names.specs.bound_members.specs.bound_calls.specs.bound_declarations.specs.constant_values.specs.declared_names.specs.Outside.{the_outside}
use Rattle.bound_names.specs.bound_members.specs.bound_calls.specs.bound_declarations.specs.constant_values.specs.Rounds.{IsPlaced}
use Rattle.bound_names.specs.bound_members.specs.bound_calls.specs.bound_declarations.specs.constant_values.specs.Tables.{AreProjectValues}
use Rattle.bound_names.specs.bound_members.specs.bound_calls.specs.bound_declarations.specs.constant_values.specs.declared_names.specs.View.{scope_view}
use Rattle.bound_names.specs.project_tables.specs.Signed.{AreSignatures, whole_scope}
use Rattle.bind_project.specs.declared.home.Home.{Home}

-- it is what the project has
pub record HomeStands (h : Home) : Type 0 where
  pub placed : IsPlaced (scope_view h.scope)
  pub known : AreProjectValues h.values.now (scope_view h.scope).spaces
  pub signed : AreSignatures h.signatures.now (scope_view h.scope).spaces
  pub declared : declarations_view h.declared.now ≡ declarations_of the_outside (whole_scope (scope_view h.scope).spaces) (scope_view h.scope).spaces
  pub new_is : h.has_new ≡ has_new (scope_view h.scope).spaces
