use Rattle.std.proofs.Common.{Option, sym, subst}
use Rattle.bound_project.specs.DraftView.{draft_view}
use Rattle.binder.specs.Scopes.{Meant, behind, plainly}
use Rattle.bound_names.specs.bound_members.specs.bound_calls.specs.bound_forms.specs.ExpressionsBound.{meant_term}
use Rattle.bound_names.specs.bound_members.specs.bound_calls.specs.bound_declarations.specs.constant_values.specs.Rounds.{IsThere}
use Rattle.bound_names.specs.bound_members.specs.bound_calls.specs.bound_declarations.specs.constant_values.proofs.Looked.{behind_there}
use Rattle.bound_names.specs.bound_members.specs.bound_calls.specs.bound_declarations.specs.constant_values.specs.declared_names.specs.View.{qualifier_view, scope_view}
use Rattle.bound_names.specs.bound_members.specs.bound_calls.specs.Steps.{MakesLeaf}
use Rattle.bound_names.specs.View.{env_view}
use Rattle.bound_accesses.proofs.Dotted.{makes_behind}
use Rattle.bound_accesses.proofs.members.behind_qualifier.Goals as goal

pub meant_term-requires-clause-there : goal.meant_term-requires-clause-there
meant_term-requires-clause-there c =
    let s = scope_view c.args.env.constants.scope in
    let A : Option Meant → Type 0 = λ (m : Option Meant). IsThere s m in
    subst A (sym c.behind-meant.ensures) (behind_there plainly s (qualifier_view c.args.qualifier) c.args.member.now c.requires.there)

pub returns : goal.returns
returns c =
    let env = env_view c.args.env in
    let f = c.args.member.now in
    let d = draft_view c.args.draft.now in
    let e = draft_view c.meant_term.new.draft in
    let q = qualifier_view c.args.qualifier in
    let A : Option Meant → Type 0 = λ (m : Option Meant). MakesLeaf env d e c.in_ok-found.found (meant_term env f m) in
    λ dot k. makes_behind env c.args.tree f q d e c.from_zero-term.result c.dotted.result
    (c.from_zero-term.ensures env d e (meant_term env f (behind plainly env.scope q f)) (subst A c.behind-meant.ensures c.in_ok-found.ensures)) c.dotted.ensures dot k
