use Rattle.std.proofs.Common.{sym, ◌∙◌}
use Rattle.vba_expression.specs.View.{view as expression_view}
use Rattle.bound_project.specs.DraftView.{draft_view}
use Rattle.bound_terms.specs.bound_accesses.specs.bound_names.specs.View.{env_view}
use Rattle.statement_terms.proofs.SetTargets.{set_bound, set_broken}
use Rattle.bound_actions.proofs.setting.bind_set.Goals as goal

pub returns-then-not-may_be_object : goal.returns-then-not-may_be_object
returns-then-not-may_be_object c =
    set_broken c.args.set_word (env_view c.args.env) (expression_view c.args.place.now) (expression_view c.args.value.now) c.in_ok-of.of (draft_view c.args.draft.now) (draft_view c.bind_given.new.draft)
    (draft_view c.push_broken.new.draft) c.requires.empty c.in_ok-of.ensures (sym c.may_be_object.ensures ∙ c.if-not-may_be_object.true) c.in_ok-push_broken.ensures

pub returns : goal.returns
returns c =
    set_bound c.args.set_word (env_view c.args.env) (expression_view c.args.place.now) (expression_view c.args.value.now) c.in_ok-of.of (draft_view c.args.draft.now) (draft_view c.bind_given.new.draft)
    (draft_view c.set_to.new.draft) c.in_ok-kind.kind c.requires.empty c.in_ok-of.ensures (sym c.may_be_object.ensures ∙ c.if-not-may_be_object.false) c.in_ok-kind.ensures
