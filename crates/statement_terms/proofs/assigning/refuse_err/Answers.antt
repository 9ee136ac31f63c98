use Rattle.bound_project.specs.DraftView.{draft_view}
use Rattle.bound_project.specs.View.{declarations_view}
use Rattle.statement_terms.proofs.Assigned.{err_refused}
use Rattle.statement_terms.proofs.assigning.refuse_err.Goals as goal

pub returns : goal.returns
returns c = λ has may.
    err_refused (declarations_view c.args.tree.declared.now) has may c.args.tree.term c.args.tree.place (draft_view c.args.draft.now) (draft_view c.push_broken.new.draft) c.requires c.in_ok-push_broken.ensures
