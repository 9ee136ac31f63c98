use Rattle.std.proofs.Common.{◌≡◌, List, false, map, refl, sym, ap, ◌∙◌}
use Rattle.std.specs.List.{list_all}
use Rattle.bound_project.specs.DraftView.{draft_view}
use Rattle.bound_project.specs.View.{parameter_view}
use Rattle.bound_project.specs.declared.declarations.Parameter.{Parameter}
use Rattle.bound_terms.specs.bound_accesses.specs.bound_names.specs.bound_members.specs.bound_calls.specs.bound_forms.specs.Terms.{may_lack}
use Rattle.bound_terms.specs.bound_accesses.specs.bound_names.specs.bound_members.specs.bound_calls.specs.declared.term.Passed.{Passed}
use Rattle.bound_actions.proofs.Raised.{event_bare, event_lacks}
use Rattle.bound_actions.proofs.events.raise_bare.Goals as goal

pub returns-then-not-takes_none : goal.returns-then-not-takes_none
returns-then-not-takes_none c =
    let ps = map parameter_view c.args.declared.now.parameters.items in
    let lacks : list_all may_lack ps ≡ false = ap (λ (l : List Parameter). list_all may_lack (map parameter_view l)) (sym c.as_slice-parameters.ensures.value) ∙ sym c.takes_none.ensures ∙ c.if-not-takes_none.true in
    λ env. event_lacks env c.args.event ps c.args.place (draft_view c.args.draft.now) (draft_view c.push_broken.new.draft) lacks c.in_ok-push_broken.ensures

pub returns : goal.returns
returns c =
    let x : Passed = record { left = c.as_slice-parameters.result; count = 0 } in
    λ env. event_bare env c.args.event c.args.declared.now.parameters.items c.args.place x (draft_view c.args.draft.now) (draft_view c.push_rest.new.draft) c.in_ok-_written._written c.in_ok-_written.arguments c.as_slice-parameters.ensures.value refl
    c.in_ok-_written.ensures
