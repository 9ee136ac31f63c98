-- Serves the code: modules that are bound procedure by procedure.
use Rattle.std.specs.Prelude.{◌≡◌, ℕ, Bool, true, false, ◌++◌, List, [], ◌∷◌, Option, Some, None, option_map}
use Rattle.vba_base.specs.declared.place.Place.{Place}
use Rattle.vba_tree.specs.Tree.{procedure_header}
use Rattle.vba_module.specs.Parts.{Part, whole_line}
use Rattle.bound_project.specs.Project.{Body}
use Rattle.bound_project.specs.Drafts.{Drafted}
use Rattle.binder.specs.Declarations.{Written}
use Rattle.binder.specs.Scopes.{Outside, Space, Scope}
use Rattle.bound_names.specs.bound_members.specs.bound_calls.specs.bound_forms.specs.Bind.{around_of, bound_body, bodies_of, all_bodies, left_in_body, left_in_parts, left_in_space, left_in_spaces}
use Rattle.binder.specs.Projects.{numbered, no_space}
use Rattle.binder.specs.Names.{scope_of}

-- bodies before others
abbrev pub with_bodies : List Body → Option (List Body) → Option (List Body)
with_bodies made others = option_map (λ bs. made ++ bs) others

-- a part begins a procedure
abbrev pub is_header : Part → Bool
is_header (whole_line (procedure_header access static_word kind x ps result)) = true
is_header part = false

-- the front of a project
abbrev pub front : Place
front = record { «module» = 1; line = 1; column = 1 }

-- between two bodies
pub record IsFront (d : Drafted) : Type 0 where
  pub statements : d.statements ≡ []
  pub pieces : d.pieces ≡ []

-- a procedure was bound
pub record ProcedureAdded (s : Scope) (p : ℕ × Written) (d e : Drafted) : Type 0 where
  pub none_left : left_in_body (around_of s p) (around_of s p).parts ≡ None
  pub made : Body
  pub is : bound_body s p ≡ Some made
  pub bodies : e.bodies ≡ d.bodies ++ made ∷ []
  pub front : IsFront e

-- a walk through the parts of a module: all its procedures and parts, and those that are still to come
pub record PartsWalked (s : Scope) (all : List (ℕ × Written)) (parts : List Part) (d : Drafted) (now : List (ℕ × Written)) (left : List Part) (e : Drafted) : Type 0 where
  pub left_is : left_in_parts s all parts ≡ left_in_parts s now left
  pub made : List Body
  pub made_is : (others : Option (List Body)) → bodies_of s all others ≡ with_bodies made (bodies_of s now others)
  pub bodies : e.bodies ≡ d.bodies ++ made
  pub front : IsFront e

-- a module was bound
pub record PartsAdded (s : Scope) (ps : List (ℕ × Written)) (parts : List Part) (d e : Drafted) : Type 0 where
  pub none_left : left_in_parts s ps parts ≡ None
  pub made : List Body
  pub made_is : (others : Option (List Body)) → bodies_of s ps others ≡ with_bodies made others
  pub bodies : e.bodies ≡ d.bodies ++ made
  pub front : IsFront e

-- a module was bound
pub record SpaceAdded (s : Scope) (d e : Drafted) : Type 0 where
  pub none_left : left_in_space s ≡ None
  pub added : PartsAdded s (numbered 0 s.here.entries) s.here.source.parts d e

-- a walk through the modules of a project
pub record SpacesWalked (o : Outside) (s : Scope) (spaces : List Space) (d : Drafted) (now : List Space) (e : Drafted) : Type 0 where
  pub left_is : left_in_spaces o spaces spaces ≡ left_in_spaces o spaces now
  pub made : List Body
  pub made_is : all_bodies s spaces ≡ with_bodies made (all_bodies s now)
  pub bodies : e.bodies ≡ d.bodies ++ made
  pub front : IsFront e

-- the modules of a project were bound
pub record SpacesAdded (o : Outside) (spaces : List Space) (d e : Drafted) : Type 0 where
  pub none_left : left_in_spaces o spaces spaces ≡ None
  pub made : List Body
  pub is : all_bodies (scope_of o spaces no_space) spaces ≡ Some made
  pub bodies : e.bodies ≡ d.bodies ++ made
