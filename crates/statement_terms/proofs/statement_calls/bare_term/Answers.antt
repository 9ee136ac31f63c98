use Rattle.bound_project.specs.DraftView.{draft_view}
use Rattle.statement_terms.proofs.Called.{acts_clear, acts_lacking}
use Rattle.statement_terms.proofs.statement_calls.bare_term.Goals as goal

pub returns-in-ErrClear : goal.returns-in-ErrClear
returns-in-ErrClear c = λ env. acts_clear env c.args.term c.args.place (draft_view c.args.draft.now) c.in-ErrClear.is

pub returns-in_ok-push_broken-in-ErrRaise : goal.returns-in_ok-push_broken-in-ErrRaise
returns-in_ok-push_broken-in-ErrRaise c = λ env. acts_lacking env c.args.term c.args.place (draft_view c.args.draft.now) (draft_view c.push_broken.new.draft) c.in-ErrRaise.is c.in_ok-push_broken-in-ErrRaise.ensures
