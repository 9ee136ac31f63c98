use Rattle.std.proofs.Common.{Option, [], map, option_map, sym, subst}
use Rattle.std.proofs.lemmas.Result.{IfOk-weaker}
use Rattle.vba_expression.specs.Tree.{Args}
use Rattle.vba_tree.specs.View.{event_arguments_view}
use Rattle.vba_tree.specs.declared.simple.EventArguments.{EventArguments}
use Rattle.bound_project.specs.DraftView.{draft_view}
use Rattle.bound_project.specs.View.{parameter_view}
use Rattle.bound_terms.specs.bound_accesses.specs.bound_names.specs.bound_members.specs.bound_calls.specs.bound_forms.specs.ExpressionsBound.{givens}
use Rattle.bound_terms.specs.bound_accesses.specs.bound_names.specs.bound_members.specs.bound_calls.specs.bound_forms.specs.StatementsBound.{event_arguments}
use Rattle.bound_terms.specs.bound_accesses.specs.bound_names.specs.View.{env_view}
use Rattle.bound_actions.specs.Raised.{Raises}
use Rattle.bound_actions.proofs.events.raise_event.Goals as goal

pub returns-in-None : goal.returns-in-None
returns-in-None c =
    let env = env_view c.args.env in
    let ps = map parameter_view c.args.declared.now.parameters.items in
    IfOk-weaker c.raise_bare.result _ _ (λ k h.
    let A : Option EventArguments → Type 0 = λ o. Raises env c.args.event ps c.args.place (event_arguments env (option_map event_arguments_view o)) (draft_view c.args.draft.now) (draft_view c.raise_bare.new.draft) k in
    subst A (sym c.in-None.is) (h env)) c.raise_bare.ensures

pub returns-in-Some : goal.returns-in-Some
returns-in-Some c =
    let env = env_view c.args.env in
    let ps = map parameter_view c.args.declared.now.parameters.items in
    let d = draft_view c.args.draft.now in
    let e = draft_view c.raise_with.new.draft in
    IfOk-weaker c.raise_with.result _ _ (λ k h.
    let A : Option EventArguments → Type 0 = λ o. Raises env c.args.event ps c.args.place (event_arguments env (option_map event_arguments_view o)) d e k in
    let B : Args → Type 0 = λ args. Raises env c.args.event ps c.args.place (givens env args) d e k in
    subst A (sym c.in-Some.is) (subst B c.nodes-nodes.ensures (h.raises []))) c.raise_with.ensures
