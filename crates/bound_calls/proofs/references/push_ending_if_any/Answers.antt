use Rattle.std.proofs.Common.{refl, sym, ◌∙◌}
use Rattle.bound_project.specs.DraftView.{draft_view}
use Rattle.bound_project.specs.View.{declared_view}
use Rattle.bound_declarations.specs.constant_values.specs.declared_names.specs.binder.specs.Types.{is_object}
use Rattle.bound_calls.proofs.Referring.{if_any_same, if_any_default}
use Rattle.bound_calls.proofs.references.push_ending_if_any.Goals as goal

pub returns-then-not-may_give_way : goal.returns-then-not-may_give_way
returns-then-not-may_give_way c =
    if_any_same c.args.ending c.args.place (draft_view c.args.draft.now) (draft_view c.push_node.new.draft) (is_object (declared_view c.args.ending.of)) c.in-Some.gives refl c.in-Some.ensures
    (sym c.may_give_way.ensures ∙ c.if-not-may_give_way.true) c.in_ok-push_node.ensures

pub returns : goal.returns
returns c =
    if_any_default c.args.ending c.args.place (draft_view c.args.draft.now) (draft_view c.push_node.new.draft) (draft_view c.push_node-2.new.draft) (is_object (declared_view c.args.ending.of)) c.in-Some.gives refl c.in-Some.ensures
    (sym c.may_give_way.ensures ∙ c.if-not-may_give_way.false) c.in_ok-push_node.ensures c.in_ok-push_node-2.ensures
