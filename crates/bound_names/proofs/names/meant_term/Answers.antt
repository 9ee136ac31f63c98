use Rattle.std.proofs.Common.{Option, sym, subst}
use Rattle.std.specs.Prelude.{IfOk, option_map}
use Rattle.bound_project.specs.DraftView.{draft_view}
use Rattle.bound_members.specs.bound_calls.specs.bound_forms.specs.ExpressionsBound.{meant_term}
use Rattle.bound_members.specs.bound_calls.specs.bound_declarations.specs.constant_values.specs.Rounds.{IsThere}
use Rattle.bound_members.specs.bound_calls.specs.bound_declarations.specs.constant_values.specs.declared_names.specs.declared.scope.Meant.{Meant}
use Rattle.bound_members.specs.bound_calls.specs.bound_declarations.specs.constant_values.specs.declared_names.specs.View.{meant_view, scope_view}
use Rattle.bound_members.specs.bound_calls.specs.Steps.{MakesLeaf}
use Rattle.bound_names.specs.View.{env_view}
use Rattle.bound_names.proofs.names.meant_term.Goals as goal

pub known_term-requires-clause-there : goal.known_term-requires-clause-there
known_term-requires-clause-there c =
    let A : Option Meant → Type 0 = λ (m : Option Meant). IsThere (scope_view c.args.env.constants.scope) (option_map meant_view m) in subst A c.in-Some.is c.requires.there

pub returns-in-Some : goal.returns-in-Some
returns-in-Some c =
    let env = env_view c.args.env in
    let d = draft_view c.args.draft.now in
    let e = draft_view c.known_term.new.draft in
    let A : Option Meant → Type 0 = λ (m : Option Meant). IfOk c.known_term.result (λ t. MakesLeaf env d e t (meant_term env c.args.name.now (option_map meant_view m))) in
    subst A (sym c.in-Some.is) c.known_term.ensures
