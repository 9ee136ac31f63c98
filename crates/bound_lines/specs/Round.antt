-- Serves the code: the procedure round a statement, and where the statement stands in it.
use Rattle.std.specs.Prelude.{◌≡◌, List, [], ◌∷◌, Option, None}
use Rattle.constant_values.specs.declared_names.specs.module_parts.specs.View.{parts_view}
use Rattle.constant_values.specs.declared_names.specs.module_parts.specs.declared.part.Part.{Part}
use Rattle.constant_values.specs.declared_names.specs.Range.{range_items}
use Rattle.constant_values.specs.declared_names.specs.binder.specs.Numbering.{Standing, standings_in}
use Rattle.bound_terms.specs.bound_accesses.specs.bound_names.specs.bound_members.specs.bound_calls.specs.bound_forms.specs.Terms.{Within}
use Rattle.bound_terms.specs.bound_accesses.specs.bound_names.specs.bound_members.specs.bound_calls.specs.bound_forms.specs.Terms as terms
use Rattle.bound_terms.specs.bound_accesses.specs.bound_names.specs.bound_members.specs.bound_calls.specs.bound_forms.specs.StatementsBound as plain
use Rattle.statement_nodes.specs.statement_numbers.specs.declared.opened.Opened.{Opened}
use Rattle.statement_nodes.specs.statement_numbers.specs.View.{part_at, stack_view}
use Rattle.bound_terms.specs.bound_accesses.specs.bound_names.specs.declared.env.Env.{Env}
use Rattle.bound_terms.specs.bound_accesses.specs.bound_names.specs.View.{EnvStands, env_view}
use Rattle.bound_lines.specs.declared.around.Around.{Around}

-- whatever With blocks stand round the statement
abbrev pub around_view : Around → plain.Around
around_view a = record { env = record (env_view a.env) { within = None }; parts = standings_in (parts_view (range_items a.body)); end = a.end }

-- its scope is that of this part
abbrev pub StandsAt : Around → Standing → Type 0
StandsAt a s = env_view a.env ≡ plain.env_at (around_view a) s

-- the With block inside these blocks, the innermost last, with that one outside
abbrev pub within_blocks : terms.Env → List Part → Option Within → List Opened → Option Within
within_blocks env body outside [] = outside
within_blocks env body outside (o ∷ os) = within_blocks env body (plain.with_or (plain.with_object (part_at body o.line)) env o.header outside) os

-- the scope inside blocks of a procedure, of which these are still to be entered
pub record Inside (a : Around) (body : List Part) (all : List Opened) (env : Env) (left : List Opened) : Type 0 where
  pub stands : EnvStands env
  pub same : record (env_view env) { within = None } ≡ (around_view a).env
  pub within_is : within_blocks (around_view a).env body (env_view env).within left ≡ plain.within (around_view a).env (stack_view body all)
