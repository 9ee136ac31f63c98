use Rattle.std.proofs.Common.{Bool, subst}
use Rattle.std.specs.Prelude.{IfOk}
use Rattle.vba_expression.specs.View.{view as expression_view}
use Rattle.bound_project.specs.DraftView.{draft_view}
use Rattle.bound_terms.specs.bound_accesses.specs.bound_names.specs.bound_members.specs.bound_calls.specs.bound_forms.specs.Targets.{is_given_with}
use Rattle.bound_terms.specs.bound_accesses.specs.bound_names.specs.View.{env_view}
use Rattle.statement_terms.specs.Assigning.{PushesFor}
use Rattle.bound_actions.proofs.assigned_values.push_for.Goals as goal

pub returns-then-is_plain : goal.returns-then-is_plain
returns-then-is_plain c = c.in_ok-of.ensures c.args.env.has_class (is_given_with (env_view c.args.env) (expression_view c.args.place.now))

pub returns : goal.returns
returns c =
    let A : Bool → Type 0 = λ (b : Bool). IfOk c.push_assigned.result (λ pushed. PushesFor c.args.env.has_class pushed.1 b c.args.tree (draft_view c.args.draft.now) (draft_view c.push_assigned.new.draft) pushed.0) in
    subst A c.in_ok-given.ensures c.push_assigned.ensures
