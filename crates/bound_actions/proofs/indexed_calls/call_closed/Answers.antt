use Rattle.bound_project.specs.DraftView.{draft_view}
use Rattle.bound_terms.specs.bound_accesses.specs.bound_names.specs.View.{env_view}
use Rattle.statement_terms.proofs.IndexedCalls.{calls_closed}
use Rattle.bound_actions.proofs.indexed_calls.call_closed.Goals as goal

pub returns : goal.returns
returns c =
    calls_closed (env_view c.args.env) c.args.tree c.in_ok-more.more c.args.nodes.now c.args.close.now (draft_view c.args.draft.now) (draft_view c.index_tree.new.draft) (draft_view c.push_term.new.draft) c.requires.some c.requires.closes c.in_ok-more.ensures
    c.in_ok-push_term.ensures
