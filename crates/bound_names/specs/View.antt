-- Serves the code: where an expression stands, as the binder says it.
use Rattle.std.specs.Prelude.{◌≡◌, option_map}
use Rattle.bound_project.specs.View.{declarations_view, declared_view}
use Rattle.bound_members.specs.bound_calls.specs.bound_declarations.specs.constant_values.specs.declared_names.specs.Outside.{the_outside}
use Rattle.bound_members.specs.bound_calls.specs.bound_declarations.specs.constant_values.specs.declared_names.specs.View.{scope_view}
use Rattle.bound_members.specs.bound_calls.specs.bound_declarations.specs.constant_values.specs.declared_names.specs.binder.specs.Projects.{declarations_of}
use Rattle.bound_members.specs.bound_calls.specs.bound_forms.specs.Terms as plain
use Rattle.bound_members.specs.bound_calls.specs.bound_declarations.specs.constant_values.specs.Rounds.{IsPlaced}
use Rattle.bound_members.specs.bound_calls.specs.bound_declarations.specs.constant_values.specs.Tables.{AreConstants}
use Rattle.project_tables.specs.Signed.{AreSignatures, whole_scope}
use Rattle.bound_names.specs.declared.env.Env.{Env}
use Rattle.bound_names.specs.declared.env.Within.{Within}

abbrev pub within_view : Within → plain.Within
within_view w = record { header = w.header; of = declared_view w.of; lends = w.lends }

abbrev pub env_view : Env → plain.Env
env_view e = record { scope = scope_view e.constants.scope; first = e.first; within = option_map within_view e.within }

-- what an environment holds is what the project has
pub record EnvStands (e : Env) : Type 0 where
  pub placed : IsPlaced (scope_view e.constants.scope)
  pub known : AreConstants e.constants
  pub signed : AreSignatures e.signatures.now (scope_view e.constants.scope).spaces
  pub declared : declarations_view e.declared.now ≡ declarations_of the_outside (whole_scope (scope_view e.constants.scope).spaces) (scope_view e.constants.scope).spaces
