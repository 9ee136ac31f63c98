-- What is told of a project that was bound.
use Rattle.std.proofs.Common.{◌≡◌, ℕ, List, [], ◌++◌, ◌∙◌, sym, ap}
use Rattle.std.specs.Prelude.{Some, None, is_some, option_map}
use Rattle.bound_project.specs.Project.{Declarations, Project}
use Rattle.bound_project.specs.Drafts.{Drafted}
use Rattle.binder.specs.Scopes.{Outside, Space}
use Rattle.binder.specs.Names.{scope_of}
use Rattle.binder.specs.Projects.{Startup, no_space, startup_number, declarations_of}
use Rattle.bound_names.specs.bound_members.specs.bound_calls.specs.bound_forms.specs.Bind.{all_bodies, project_with, left_in_spaces}
use Rattle.bind_project.specs.Bound.{Runs}
use Rattle.bind_project.specs.Modules.{SpacesAdded}

-- the bodies of a draft that was new
pub from_nothing : (o : Outside) (spaces : List Space) (d e : Drafted) → d.bodies ≡ [] → SpacesAdded o spaces d e
    → all_bodies (scope_of o spaces no_space) spaces ≡ Some e.bodies
from_nothing o spaces d e empty a = a.is ∙ ap Some (sym (a.bodies ∙ ap (λ bs. bs ++ a.made) empty))

-- the project of a draft
pub runs : (o : Outside) (spaces : List Space) (st : Startup) (n : ℕ) (e : Drafted) (declared : Declarations) (project : Project)
    → left_in_spaces o spaces spaces ≡ None → all_bodies (scope_of o spaces no_space) spaces ≡ Some e.bodies
    → startup_number (scope_of o spaces no_space) st spaces ≡ Some n
    → declared ≡ declarations_of o (scope_of o spaces no_space) spaces
    → project ≡ record { declared = declared; bodies = e.bodies; startup = n }
    → Runs o spaces st project
runs o spaces st n e declared project none bodies starts same is = record {
  none_left = none;
  starts = ap is_some starts;
  project_is =
      ap (λ made. option_map (project_with (declarations_of o (scope_of o spaces no_space) spaces) (startup_number (scope_of o spaces no_space) st spaces)) made) bodies
      ∙ (ap (λ found. Some (project_with (declarations_of o (scope_of o spaces no_space) spaces) found e.bodies)) starts
      ∙ (ap (λ d. Some (record { declared = d; bodies = e.bodies; startup = n })) (sym same) ∙ ap Some (sym is)));
}
