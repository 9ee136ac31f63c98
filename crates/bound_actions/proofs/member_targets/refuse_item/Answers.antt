use Rattle.std.proofs.Common.{List, length, sym, ap, ◌∙◌}
use Rattle.std.proofs.lemmas.Result.{IfOk-weaker}
use Rattle.bound_project.specs.DraftView.{draft_view}
use Rattle.bound_terms.specs.bound_accesses.specs.bound_names.specs.View.{env_view}
use Rattle.bound_terms.specs.bound_accesses.specs.bound_names.specs.bound_members.specs.bound_calls.specs.bound_forms.specs.Targets.{written_rule}
use Rattle.bound_terms.specs.bound_accesses.specs.bound_names.specs.bound_members.specs.bound_calls.specs.declared.term.Shape.{Shape}
use Rattle.bound_terms.specs.bound_accesses.specs.bound_names.specs.bound_members.specs.bound_calls.specs.Shapes.{shapes_given}
use Rattle.bound_terms.specs.bound_accesses.specs.bound_names.specs.bound_members.specs.bound_calls.specs.Standing.{member_is}
use Rattle.bound_actions.proofs.RefusedMembers.{written_refused}
use Rattle.bound_actions.proofs.member_targets.refuse_item.Goals as goal

pub returns : goal.returns
returns c =
    let d = draft_view c.args.draft.now in
    let f = draft_view c.read_untaken.new.draft in
    let e = draft_view c.write_broken.new.draft in
    IfOk-weaker c.write_broken.result _ _
    (λ k w. written_refused (env_view c.args.env) c.args.place c.args.member c.in-Some.rule c.in_ok-count.count c.args.nodes.now c.in_ok-shapes.shapes.items d f e k c.requires.named c.if-member.false c.in_ok-shapes.ensures
    (sym c.in-Some.is ∙ c.in_ok-rule.ensures ∙ ap (λ (l : List Shape). written_rule (member_is f.tables c.args.member) (shapes_given l)) c.deref.ensures.value)
    (c.in_ok-count.ensures ∙ ap (λ (l : List Shape). length l) c.deref-2.ensures.value) w) c.write_broken.ensures
