use Rattle.bound_project.specs.DraftView.{draft_view}
use Rattle.statement_terms.proofs.SetTargets.{sets_marked}
use Rattle.statement_terms.proofs.setting.set_marked.Goals as goal

pub returns : goal.returns
returns c = sets_marked c.args.set_word c.args.ending (draft_view c.args.draft.now) (draft_view c.push_node.new.draft) c.requires.object c.requires.marked c.in_ok-push_node.ensures
