-- What the project of an environment declares.
use Rattle.std.proofs.Common.{◌≡◌, sym}
use Rattle.bound_project.specs.View.{declarations_view}
use Rattle.bound_members.specs.bound_calls.specs.bound_forms.specs.ClassDefaults.{declared_in}
use Rattle.bound_names.specs.declared.env.Env.{Env}
use Rattle.bound_names.specs.View.{EnvStands, env_view}

-- it is what its scope says
pub env_declares : (env : Env) → EnvStands env → declared_in (env_view env).scope ≡ declarations_view env.declared.now
env_declares env s = sym s.declared
