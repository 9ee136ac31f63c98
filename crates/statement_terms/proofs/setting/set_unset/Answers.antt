use Rattle.bound_project.specs.DraftView.{draft_view}
use Rattle.statement_terms.proofs.SetTargets.{sets_unset}
use Rattle.statement_terms.proofs.setting.set_unset.Goals as goal

pub returns : goal.returns
returns c =
    sets_unset c.args.set_word c.args.place c.args.ending (draft_view c.args.draft.now) (draft_view c.push_node.new.draft) (draft_view c.push_broken.new.draft) c.requires.object c.requires.other c.requires.unset c.in_ok-push_node.ensures
    c.in_ok-push_broken.ensures
