use Rattle.std.proofs.Common.{Option, subst, ap}
use Rattle.std.specs.Prelude.{option_map}
use Rattle.std.proofs.lemmas.Result.{IfOk-weaker}
use Rattle.binder.specs.Scopes.{Qualifier}
use Rattle.bound_names.specs.bound_members.specs.bound_calls.specs.bound_declarations.specs.constant_values.specs.Rounds.{IsPlace}
use Rattle.bound_names.specs.bound_members.specs.bound_calls.specs.bound_declarations.specs.constant_values.specs.declared_names.specs.View.{qualifier_view, scope_view}
use Rattle.bound_accesses.specs.Qualified.{IsQualifier}
use Rattle.bound_accesses.proofs.members.member_tree.Goals as goal

pub behind_qualifier-requires-clause-there : goal.behind_qualifier-requires-clause-there
behind_qualifier-requires-clause-there c =
    let A : Option Qualifier → Type 0 = λ (q : Option Qualifier). IsPlace (scope_view c.args.env.constants.scope) q in subst A (ap (λ o. option_map qualifier_view o) c.in-Some.is) c.qualifier_of.ensures.place

pub returns-in-Some : goal.returns-in-Some
returns-in-Some c =
    let A : Option Qualifier → Type 0 = λ (q : Option Qualifier). IsQualifier (scope_view c.args.env.constants.scope) c.args.tree q in
    let k = subst A (ap (λ o. option_map qualifier_view o) c.in-Some.is) c.qualifier_of.ensures.is in
    IfOk-weaker c.behind_qualifier.result _ _ (λ made m. m c.args.dot k) c.behind_qualifier.ensures

pub returns-in-None : goal.returns-in-None
returns-in-None c =
    let A : Option Qualifier → Type 0 = λ (q : Option Qualifier). IsQualifier (scope_view c.args.env.constants.scope) c.args.tree q in
    let k = subst A (ap (λ o. option_map qualifier_view o) c.in-None.is) c.qualifier_of.ensures.is in
    IfOk-weaker c.behind_tree.result _ _ (λ made m. m k) c.behind_tree.ensures
