use Rattle.bound_project.specs.DraftView.{draft_view}
use Rattle.bound_terms.proofs.indexing.open_received.Goals as goal

pub returns : goal.returns
returns c = λ env. c.open_call.ensures env (draft_view c.args.draft.now) (draft_view c.push_receiver.new.draft) c.in_ok-push_receiver.ensures
