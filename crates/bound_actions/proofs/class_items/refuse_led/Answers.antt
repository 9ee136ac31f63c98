use Rattle.std.proofs.Common.{List, length, sym, ap, ◌∙◌}
use Rattle.std.proofs.lemmas.Result.{IfOk-weaker}
use Rattle.bound_project.specs.DraftView.{draft_view}
use Rattle.bound_terms.specs.bound_accesses.specs.bound_names.specs.bound_members.specs.bound_calls.specs.bound_forms.specs.Operands.{are_places}
use Rattle.bound_terms.specs.bound_accesses.specs.bound_names.specs.bound_members.specs.bound_calls.specs.declared.term.Shape.{Shape}
use Rattle.bound_terms.specs.bound_accesses.specs.bound_names.specs.bound_members.specs.bound_calls.specs.Shapes.{shapes_given}
use Rattle.bound_terms.specs.bound_accesses.specs.bound_names.specs.View.{env_view}
use Rattle.bound_actions.proofs.ClassItems.{refuses_led}
use Rattle.bound_actions.proofs.class_items.refuse_led.Goals as goal

pub push_node-requires : goal.push_node-requires
push_node-requires c = c.in_ok-ending.ensures.named

pub returns : goal.returns
returns c =
    IfOk-weaker c.write_broken.result _ _
    (λ k w. refuses_led (env_view c.args.env) c.args.place c.args.term c.args.rule c.args.count c.in_ok-long.long c.args.nodes.now c.in_ok-shapes.shapes.items c.in_ok-ending.ending (draft_view c.args.draft.now) (draft_view c.given_ending.new.draft)
    (draft_view c.push_node.new.draft) (draft_view c.read_untaken.new.draft) (draft_view c.write_broken.new.draft) k c.in_ok-ending.ensures c.in_ok-push_node.ensures c.in_ok-shapes.ensures
    (c.in_ok-long.ensures ∙ ap (λ (l : List Shape). length l) c.deref.ensures.value)
    (sym (ap (λ (l : List Shape). are_places (shapes_given l)) c.deref-2.ensures.value) ∙ sym c.are_places.ensures ∙ c.if-not-are_places.false) c.if-long-count.false w) c.write_broken.ensures
