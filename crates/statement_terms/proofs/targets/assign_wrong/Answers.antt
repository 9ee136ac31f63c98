use Rattle.bound_project.specs.DraftView.{draft_view}
use Rattle.statement_terms.proofs.WrittenTargets.{value_broken}
use Rattle.statement_terms.proofs.targets.assign_wrong.Goals as goal

pub returns : goal.returns
returns c = value_broken c.args.place c.args.ending c.args.rule (draft_view c.args.draft.now) (draft_view c.push_node.new.draft) (draft_view c.push_broken.new.draft) c.in_ok-push_node.ensures c.in_ok-push_broken.ensures
