use Rattle.bound_project.specs.DraftView.{draft_view}
use Rattle.bound_terms.specs.bound_accesses.specs.bound_names.specs.View.{env_view}
use Rattle.statement_terms.proofs.Called.{acts_number}
use Rattle.bound_actions.proofs.raising.raise_number.Goals as goal

pub returns-then-written-eq1 : goal.returns-then-written-eq1
returns-then-written-eq1 c =
    let w = c.in_ok-written.written in
    λ place. acts_number (env_view c.args.env) place c.args.nodes.now (draft_view c.args.draft.now) (draft_view c.push_raised.new.draft) w c.in_ok-written.arguments c.if-written-eq1.true c.in_ok-written.ensures
