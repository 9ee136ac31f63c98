use Rattle.std.proofs.Common.{ap}
use Rattle.std.specs.Prelude.{option_map}
use Rattle.std.proofs.lemmas.Result.{IfOk-weaker}
use Rattle.bound_project.specs.DraftView.{draft_view}
use Rattle.bound_members.specs.bound_calls.specs.bound_forms.specs.ExpressionsBound.{meant_term}
use Rattle.bound_members.specs.bound_calls.specs.bound_declarations.specs.constant_values.specs.declared_names.specs.binder.specs.Scopes.{called, declares}
use Rattle.bound_names.specs.Callee.{CalleeIs}
use Rattle.bound_members.specs.bound_calls.specs.Steps.{MakesLeaf}
use Rattle.bound_names.specs.View.{env_view}
use Rattle.bound_names.proofs.Callees.{callee_named, callee_same}
use Rattle.bound_names.proofs.callee.callee_term.Goals as goal

pub returns-in-Some : goal.returns-in-Some
returns-in-Some c =
    let env = env_view c.args.env in
    let x = c.in-Some.name.now in
    let d = draft_view c.args.draft.now in
    let e = draft_view c.named_term.new.draft in
    IfOk-weaker c.named_term.result (λ y. MakesLeaf env d e y (meant_term env x (declares called env.scope x))) (λ y. CalleeIs env c.args.tree d e y)
    (λ y h. callee_named env c.args.tree x d e y (ap (λ o. option_map (λ n. n.now) o) c.in-Some.is) h) c.named_term.ensures

pub returns-in-None : goal.returns-in-None
returns-in-None c = callee_same (env_view c.args.env) c.args.tree (draft_view c.args.draft.now) c.requires.named c.in-None.is
