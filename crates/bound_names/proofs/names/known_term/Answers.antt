use Rattle.std.proofs.Common.{Some, sym, subst}
use Rattle.std.specs.Prelude.{IfOk}
use Rattle.std.proofs.lemmas.Result.{IfOk-weaker}
use Rattle.bound_project.specs.DraftView.{draft_view}
use Rattle.bound_members.specs.bound_calls.specs.bound_forms.specs.ExpressionsBound.{meant_term}
use Rattle.bound_members.specs.bound_calls.specs.bound_declarations.specs.constant_values.specs.Rounds.{IsThere}
use Rattle.bound_members.specs.bound_calls.specs.bound_declarations.specs.constant_values.specs.declared_names.specs.declared.scope.Meant.{Meant}
use Rattle.bound_members.specs.bound_calls.specs.bound_declarations.specs.constant_values.specs.declared_names.specs.View.{meant_view, scope_view}
use Rattle.bound_members.specs.bound_calls.specs.Steps.{MakesLeaf}
use Rattle.bound_names.specs.View.{env_view}
use Rattle.bound_names.proofs.names.known_term.Goals as goal

pub returns-in-OfHost : goal.returns-in-OfHost
returns-in-OfHost c =
    let env = env_view c.args.env in
    let d = draft_view c.args.draft.now in
    let e = draft_view c.host_term.new.draft in
    let A : Meant → Type 0 = λ (m : Meant). IfOk c.host_term.result (λ t. MakesLeaf env d e t (meant_term env c.args.name.now (Some (meant_view m)))) in
    subst A (sym c.in-OfHost.is) (IfOk-weaker c.host_term.result _ _ (λ t m. m env) c.host_term.ensures)

pub returns-in-OfLibrary : goal.returns-in-OfLibrary
returns-in-OfLibrary c =
    let env = env_view c.args.env in
    let d = draft_view c.args.draft.now in
    let e = draft_view c.library_term.new.draft in
    let A : Meant → Type 0 = λ (m : Meant). IfOk c.library_term.result (λ t. MakesLeaf env d e t (meant_term env c.args.name.now (Some (meant_view m)))) in
    subst A (sym c.in-OfLibrary.is) c.library_term.ensures

pub returns-in-OfProcedure : goal.returns-in-OfProcedure
returns-in-OfProcedure c =
    let env = env_view c.args.env in
    let d = draft_view c.args.draft.now in
    let e = draft_view c.own_term.new.draft in
    let A : Meant → Type 0 = λ (m : Meant). IfOk c.own_term.result (λ t. MakesLeaf env d e t (meant_term env c.args.name.now (Some (meant_view m)))) in
    subst A (sym c.in-OfProcedure.is) c.own_term.ensures

pub returns-in-OfModule : goal.returns-in-OfModule
returns-in-OfModule c =
    let env = env_view c.args.env in
    let d = draft_view c.args.draft.now in
    let e = draft_view c.entry_term.new.draft in
    let A : Meant → Type 0 = λ (m : Meant). IfOk c.entry_term.result (λ t. MakesLeaf env d e t (meant_term env c.args.name.now (Some (meant_view m)))) in
    subst A (sym c.in-OfModule.is) c.entry_term.ensures

pub own_term-requires-clause-there : goal.own_term-requires-clause-there
own_term-requires-clause-there c = let A : Meant → Type 0 = λ (m : Meant). IsThere (scope_view c.args.env.constants.scope) (Some (meant_view m)) in subst A c.in-OfProcedure.is c.requires.there

pub entry_term-requires-clause-there : goal.entry_term-requires-clause-there
entry_term-requires-clause-there c = let A : Meant → Type 0 = λ (m : Meant). IsThere (scope_view c.args.env.constants.scope) (Some (meant_view m)) in subst A c.in-OfModule.is c.requires.there
