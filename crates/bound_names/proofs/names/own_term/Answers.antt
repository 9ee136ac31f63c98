use Rattle.std.proofs.Common.{◌≡◌, Some, refl, sym, subst}
use Rattle.std.proofs.lemmas.Result.{IfOk-weaker}
use Rattle.bound_project.specs.DraftView.{draft_view}
use Rattle.bound_members.specs.bound_calls.specs.bound_declarations.specs.constant_values.specs.declared_names.specs.binder.specs.Scopes.{of_procedure}
use Rattle.bound_members.specs.bound_calls.specs.bound_forms.specs.ExpressionsBound.{own_term, constant_term}
use Rattle.bound_members.specs.bound_calls.specs.bound_declarations.specs.constant_values.specs.declared_names.specs.declared.local.Own.{Own}
use Rattle.bound_members.specs.bound_calls.specs.bound_declarations.specs.constant_values.specs.declared_names.specs.View.{local_view, own_view}
use Rattle.bound_members.specs.bound_calls.specs.Steps.{MakesLeaf}
use Rattle.bound_names.specs.View.{env_view}
use Rattle.bound_names.proofs.NamedTerms.{leaf_as}
use Rattle.bound_names.proofs.names.own_term.Goals as goal

pub returns-in-Constant : goal.returns-in-Constant
returns-in-Constant c =
    let env = env_view c.args.env in
    let x = c.args.name.now in
    let n = c.args.number in
    let l = c.args.local in
    let d = draft_view c.args.draft.now in
    let e = draft_view c.constant_term.new.draft in
    let P : Own → Type 0 = λ (o : Own). constant_term env x (Some (of_procedure n (record { name = l.name.now; own = own_view o }))) ≡ own_term env x n (record { name = l.name.now; own = own_view o }) in
    let is : constant_term env x (Some (of_procedure n (local_view l))) ≡ own_term env x n (local_view l) = subst P (sym c.in-Constant.is) refl in
    IfOk-weaker c.constant_term.result (λ t. MakesLeaf env d e t (constant_term env x (Some (of_procedure n (local_view l))))) (λ t. MakesLeaf env d e t (own_term env x n (local_view l)))
    (λ t m. leaf_as env d e t (constant_term env x (Some (of_procedure n (local_view l)))) (own_term env x n (local_view l)) is m) c.constant_term.ensures

pub returns-in_default : goal.returns-in_default
returns-in_default c = IfOk-weaker c.own_variable.result _ _ (λ t m. m (draft_view c.args.draft.now) c.args.name.now) c.own_variable.ensures
