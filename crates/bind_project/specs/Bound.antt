-- Serves the code: what binding the modules of a project gives, where they break no rule.
use Rattle.std.specs.Prelude.{◌≡◌, List, Option, Some, None, IsSome, option_map}
use Rattle.bound_project.specs.Project.{Project}
use Rattle.bound_project.specs.Bodies.{Fits, project_view}
use Rattle.binder.specs.Scopes.{Outside, Space}
use Rattle.binder.specs.Names.{scope_of}
use Rattle.binder.specs.Projects.{Startup, no_space, startup_number, declarations_of}
use Rattle.bound_names.specs.bound_members.specs.bound_calls.specs.bound_forms.specs.Bind.{all_bodies, project_with, left_in_spaces}
use Rattle.bind_project.specs.declared.bound.Bound.{Bound}
use Rattle.bind_project.specs.declared.bound.Bound.TheVariants as bound

-- the project of modules
abbrev pub project_in : Outside → List Space → Startup → Option Project
project_in o spaces st =
    let s = scope_of o spaces no_space in option_map (project_with (declarations_of o s spaces) (startup_number s st spaces)) (all_bodies s spaces)

-- a project that is bound: each of its parts is, and it has the macro to begin with
pub record Runs (o : Outside) (spaces : List Space) (st : Startup) (pr : Project) : Type 0 where
  pub none_left : left_in_spaces o spaces spaces ≡ None
  pub starts : IsSome (startup_number (scope_of o spaces no_space) st spaces)
  pub project_is : project_in o spaces st ≡ Some pr

-- of a form that isn't bound yet nothing is told
abbrev pub IsBound : Outside → List Space → Startup → Bound → Type 0
IsBound o spaces st (bound.NotBuilt place) = Unit {0}
IsBound o spaces st (bound.Runs pr) = Fits pr × Runs o spaces st (project_view pr)
