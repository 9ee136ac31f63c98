use Rattle.std.proofs.Common.{◌≡◌, [], Option, Some, sym, subst, ap, ◌∙◌}
use Rattle.std.specs.Prelude.{option_map}
use Rattle.bound_project.specs.declared.variable.Variable.{Variable}
use Rattle.bound_project.specs.Drafts.{Drafted, no_tables}
use Rattle.bound_project.specs.View.{variable_view}
use Rattle.constant_values.specs.declared_names.specs.binder.specs.Scopes.{Meant, declares, plainly}
use Rattle.bound_terms.specs.bound_accesses.specs.bound_names.specs.bound_members.specs.bound_calls.specs.bound_forms.specs.ExpressionsBound.{meant_term}
use Rattle.bound_terms.specs.bound_accesses.specs.bound_names.specs.bound_members.specs.bound_calls.specs.bound_forms.specs.StatementsBound.{plain_variable}
use Rattle.constant_values.specs.Rounds.{IsThere}
use Rattle.constant_values.proofs.Looked.{declared_there}
use Rattle.constant_values.specs.declared_names.specs.View.{meant_view, scope_view}
use Rattle.statement_terms.specs.Terms.{IsVariable}
use Rattle.bound_terms.specs.bound_accesses.specs.bound_names.specs.View.{env_view}
use Rattle.bound_lines.proofs.loop_variables.loop_variable.Goals as goal

pub meant_variable-requires-clause-there : goal.meant_variable-requires-clause-there
meant_variable-requires-clause-there c =
    let s = scope_view c.args.env.constants.scope in
    let x = c.args.name.now in
    let is : declares plainly s x ≡ Some (meant_view c.in-Some.meant) = sym c.declares.ensures ∙ ap (λ o. option_map meant_view o) c.in-Some.is in
    let A : Option Meant → Type 0 = λ (m : Option Meant). IsThere s m in
    subst A is (declared_there plainly s x c.requires.placed)

pub returns : goal.returns
returns c =
    let env = env_view c.args.env in
    let x = c.args.name.now in
    let m = meant_view c.in-Some.meant in
    let is : declares plainly env.scope x ≡ Some m = sym c.declares.ensures ∙ ap (λ o. option_map meant_view o) c.in-Some.is in
    let d : Drafted = record { tables = no_tables; pieces = []; statements = []; bodies = [] } in
    let leaf = c.in_ok-term.ensures d x in
    let A : Option Variable → Type 0 = λ (o : Option Variable). IsVariable c.in_ok-term.term o in
    let B : Option Meant → Type 0 = λ (n : Option Meant). Some (variable_view c.in-Some-variable_in.variable) ≡ plain_variable (meant_term env x n) in
    subst B (sym is) (sym (subst A c.in-Some-variable_in.is c.variable_in.ensures env no_tables (meant_term env x (Some m)) [] [] (leaf.stands [])))
