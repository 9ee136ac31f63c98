use Rattle.bound_project.specs.DraftView.{draft_view}
use Rattle.statement_terms.proofs.Called.{given_pushed}
use Rattle.statement_terms.proofs.pushed_terms.push_term.Goals as goal

pub returns : goal.returns
returns c =
    given_pushed c.args.term c.args.place (draft_view c.args.draft.now) (draft_view c.given_ending.new.draft) (draft_view c.push_node.new.draft) c.in_ok-ending.ending c.in_ok-ending.ensures c.in_ok-push_node.ensures
