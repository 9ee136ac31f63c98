-- Serves the code: statements behind colons, from the left.
use Rattle.std.specs.Prelude.{◌≡◌, ◌++◌, ℕ, ◌+◌, List, [], ◌∷◌, Option, Some}
use Rattle.vba_tree.specs.View.{Next, written, missing}
use Rattle.bound_project.specs.Statements.{Statement}
use Rattle.bound_calls.specs.bound_declarations.specs.constant_values.specs.declared_names.specs.binder.specs.Numbering.{Standing}
use Rattle.bound_calls.specs.bound_forms.specs.StatementsBound.{Around, both, first_or, bound_statement}
use Rattle.bound_project.specs.Drafts.{Drafted}
use Rattle.statement_numbers.specs.Counts.{next_count, next_counts}

-- the statements of one behind its colon
abbrev pub bound_next : Around → Standing → Next → (number behind : ℕ) → Option (List Statement)
bound_next a s (written colon x) number behind = bound_statement a s x number behind
bound_next a s (missing colon) number behind = Some []

-- the statements of those behind colons, from the left
abbrev pub bound_nexts : Around → Standing → List Next → (number behind : ℕ) → Option (List Statement)
bound_nexts a s [] number behind = Some []
bound_nexts a s (next ∷ others) number behind =
    let middle = number + next_count next in
    both (bound_next a s next number (first_or (next_counts others) middle behind)) (bound_nexts a s others middle behind)

-- a walk through those behind colons, of which these are still to come
pub record OthersWalked (a : Around) (s : Standing) (all : List Next) (number behind : ℕ) (d : Drafted) (left : List Next) (now end behind_now : ℕ) (e : Drafted) : Type 0 where
  pub made : List Statement
  pub is : bound_nexts a s all number behind ≡ both (Some made) (bound_nexts a s left now behind)
  pub behind_is : behind_now ≡ behind
  pub end_is : end ≡ now + next_counts left
  pub statements : e.statements ≡ d.statements ++ made
  pub bodies : e.bodies ≡ d.bodies
  pub pieces : e.pieces ≡ []
