use Rattle.bound_project.specs.DraftView.{draft_view}
use Rattle.statement_terms.proofs.SetTargets.{sets_no_object}
use Rattle.statement_terms.proofs.setting.set_no_object.Goals as goal

pub returns : goal.returns
returns c =
    sets_no_object c.args.set_word c.args.place c.args.ending (draft_view c.args.draft.now) (draft_view c.push_node.new.draft) (draft_view c.push_broken.new.draft) c.requires.plain c.in_ok-push_node.ensures c.in_ok-push_broken.ensures
