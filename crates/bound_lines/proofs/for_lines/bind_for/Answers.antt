use Rattle.std.proofs.Common.{◌∙◌, option_map, sym}
use Rattle.vba_expression.specs.View.{view as expression_view}
use Rattle.vba_tree.specs.View.{step_view}
use Rattle.bound_project.specs.DraftView.{draft_view}
use Rattle.bound_project.specs.View.{variable_view}
use Rattle.bound_terms.specs.bound_accesses.specs.bound_names.specs.View.{env_view}
use Rattle.statement_nodes.specs.statement_numbers.specs.View.{standing_view}
use Rattle.statement_nodes.proofs.Broken.{for_broken, for_counted}
use Rattle.bound_lines.proofs.for_lines.bind_for.Goals as goal

pub returns-then-not-is_counting : goal.returns-then-not-is_counting
returns-then-not-is_counting c =
    for_broken (env_view c.args.env) (standing_view c.args.standing) c.args.counter.now (expression_view c.args.start.now) (expression_view c.args.limit.now) (option_map step_view c.args.step.now)
    (variable_view c.in_ok-variable.variable) c.in_ok-broken.broken (draft_view c.args.draft.now) (draft_view c.mark.new.draft) c.in_ok-variable.ensures
    (sym c.is_counting.ensures ∙ c.if-not-is_counting.true) c.in_ok-broken.ensures

pub returns : goal.returns
returns c =
    for_counted (env_view c.args.env) (standing_view c.args.standing) c.args.counter.now (expression_view c.args.start.now) (expression_view c.args.limit.now) (option_map step_view c.args.step.now)
    (variable_view c.in_ok-variable.variable) c.in_ok-kind.kind (draft_view c.args.draft.now) (draft_view c.bind_counted.new.draft) c.in_ok-variable.ensures
    (sym c.is_counting.ensures ∙ c.if-not-is_counting.false) c.in_ok-kind.ensures
