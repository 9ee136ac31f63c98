-- Serves the code: bodies that are bound part by part.
use Rattle.std.specs.Prelude.{◌≡◌, ℕ, true, Bool, ◌++◌, List, [], ◌∷◌, Option, Some, None}
use Rattle.vba_module.specs.Parts.{Part, statement, place_of}
use Rattle.vba_tree.specs.Tree.{simple}
use Rattle.bound_project.specs.Statements.{Statement}
use Rattle.bound_project.specs.Drafts.{Drafted}
use Rattle.bound_calls.specs.bound_declarations.specs.constant_values.specs.declared_names.specs.binder.specs.Numbering.{Standing, simple_count}
use Rattle.bound_calls.specs.bound_forms.specs.StatementsBound.{Around, both, unless_none, one_statement, simple_action, bound_statement, part_statements, all_statements}
use Rattle.bound_calls.specs.bound_forms.specs.Bind.{is_built_part, left_in_body}

-- statements that were added to those of a draft
pub record Added (found : Option (List Statement)) (d e : Drafted) : Type 0 where
  pub made : List Statement
  pub is : found ≡ Some made
  pub statements : e.statements ≡ d.statements ++ made
  pub bodies : e.bodies ≡ d.bodies
  pub pieces : e.pieces ≡ []

-- the statements of a part, behind which that one runs
abbrev pub statements_of : Around → Standing → (next : ℕ) → Part → Option (List Statement)
statements_of a s next (statement (simple x)) = unless_none (simple_count x) (one_statement (place_of (statement (simple x))) next (simple_action a s x))
statements_of a s next (statement x) = bound_statement a s x s.number next
statements_of a s next part = Some []

-- a part was bound
pub record PartAdded (a : Around) (s : Standing) (d e : Drafted) : Type 0 where
  pub built : is_built_part a.env.scope s.part ≡ true
  pub added : Added (part_statements a s) d e

-- a body was bound
pub record BodyAdded (a : Around) (ss : List Standing) (d e : Drafted) : Type 0 where
  pub none_left : left_in_body a ss ≡ None
  pub added : Added (all_statements a ss) d e

-- a walk through a body: all its parts, and those that are still to come
pub record Walked (a : Around) (all : List Standing) (d : Drafted) (now : List Standing) (e : Drafted) : Type 0 where
  pub left : left_in_body a all ≡ left_in_body a now
  pub made : List Statement
  pub made_is : all_statements a all ≡ both (Some made) (all_statements a now)
  pub statements : e.statements ≡ d.statements ++ made
  pub bodies : e.bodies ≡ d.bodies
  pub pieces : e.pieces ≡ []
