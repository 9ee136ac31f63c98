use Rattle.bound_project.specs.DraftView.{draft_view}
use Rattle.statement_terms.proofs.SetTargets.{sets_err}
use Rattle.statement_terms.proofs.setting.set_err.Goals as goal

pub returns : goal.returns
returns c = sets_err c.args.place c.args.term (draft_view c.args.draft.now) (draft_view c.push_broken.new.draft) c.requires c.in_ok-push_broken.ensures
