use Rattle.std.proofs.Common.{◌≡◌, List, false, length, sym, ap, ◌∙◌}
use Rattle.std.specs.Prelude.{map}
use Rattle.bound_project.specs.DraftView.{draft_view}
use Rattle.bound_project.specs.View.{parameter_view}
use Rattle.bound_terms.specs.bound_accesses.specs.bound_names.specs.bound_members.specs.bound_calls.specs.bound_forms.specs.Terms.{takes}
use Rattle.bound_terms.specs.bound_accesses.specs.bound_names.specs.bound_members.specs.bound_calls.specs.declared.term.Shape.{Shape}
use Rattle.bound_terms.specs.bound_accesses.specs.bound_names.specs.bound_members.specs.bound_calls.specs.Shapes.{shapes_given}
use Rattle.bound_terms.specs.bound_accesses.specs.bound_names.specs.View.{env_view}
use Rattle.bound_actions.proofs.Refusing.{arguments_refused}
use Rattle.bound_actions.proofs.untaken.refuse_arguments.Goals as goal

pub returns : goal.returns
returns c =
    let ps = map parameter_view c.args.parameters.now in
    let shapes = c.in_ok-shapes.shapes.items in
    let none : takes ps (shapes_given shapes) ≡ false = ap (λ (l : List Shape). takes ps (shapes_given l)) (sym c.deref.ensures.value) ∙ sym c.in_ok-is_taken.ensures ∙ c.if-is_taken.false in
    let long = c.in_ok-count.ensures ∙ ap (λ (l : List Shape). length l) c.deref-2.ensures.value in
    arguments_refused (env_view c.args.env) ps c.args.before c.in_ok-count.count c.in_ok-values.values c.args.place c.args.nodes.now shapes (draft_view c.args.draft.now) (draft_view c.read_untaken.new.draft) (draft_view c.push_broken.new.draft)
    c.in_ok-shapes.ensures none long c.in_ok-values.ensures c.in_ok-push_broken.ensures
