use Rattle.std.proofs.Common.{Bool, Option, sym, subst, ◌∙◌}
use Rattle.vba_expression.specs.View.{view as expression_view}
use Rattle.bound_project.specs.DraftView.{draft_view}
use Rattle.bound_terms.specs.bound_accesses.specs.bound_names.specs.View.{env_view}
use Rattle.bound_terms.specs.bound_accesses.specs.bound_names.specs.bound_members.specs.bound_calls.specs.bound_forms.specs.Targets.{value_given}
use Rattle.statement_terms.specs.Assigning.{ValueFor}
use Rattle.statement_terms.proofs.GivenValues.{value_bound, value_kept, value_marked}
use Rattle.bound_actions.proofs.assigned_values.bind_assigned.Goals as goal

pub returns-then-not-may_break : goal.returns-then-not-may_break
returns-then-not-may_break c =
    let env = env_view c.args.env in
    let has = c.args.env.has_class in
    let place = expression_view c.args.place.now in
    let value = expression_view c.args.value.now in
    let p = c.in_ok-of in
    let d = draft_view c.args.draft.now in
    let e = draft_view c.push_for.new.draft in
    value_kept env p.may_be place value p.of d e (sym c.may_break.ensures ∙ c.if-not-may_break.true)
    (value_bound has p.may_be env place value c.in_ok-tree.tree p.of d (draft_view c.tree_of.new.draft) e (sym c.args.env.has_class_is) c.in_ok-tree.ensures p.ensures)

pub returns : goal.returns
returns c =
    let env = env_view c.args.env in
    let has = c.args.env.has_class in
    let place = expression_view c.args.place.now in
    let value = expression_view c.args.value.now in
    let x = c.in_ok-tree.tree in
    let p = c.in_ok-of in
    let d = draft_view c.args.draft.now in
    let f = draft_view c.tree_of.new.draft in
    let e = draft_view c.push_for.new.draft in
    let K : Option Bool → Type 0 = λ (o : Option Bool). ValueFor env o (value_given env place value) d (draft_view c.mark_taken.new.draft) in
    subst K (sym c.marked_may.ensures)
    (value_marked env p.may_be place value x p.of c.in_ok-taker.taker d f e (draft_view c.mark_taken.new.draft) c.in_ok-tree.ensures c.in_ok-taker.ensures
    (value_bound has p.may_be env place value x p.of d f e (sym c.args.env.has_class_is) c.in_ok-tree.ensures p.ensures) c.in_ok-mark_taken.ensures)
