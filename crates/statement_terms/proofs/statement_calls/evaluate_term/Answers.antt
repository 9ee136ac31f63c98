use Rattle.bound_project.specs.DraftView.{draft_view}
use Rattle.statement_terms.proofs.Called.{acts_given}
use Rattle.statement_terms.proofs.statement_calls.evaluate_term.Goals as goal

pub returns : goal.returns
returns c = λ env. acts_given env c.args.term c.args.place (draft_view c.args.draft.now) (draft_view c.push_term.new.draft) c.in_ok-push_term.ensures
