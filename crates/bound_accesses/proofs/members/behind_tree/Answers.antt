use Rattle.bound_project.specs.DraftView.{draft_view}
use Rattle.bound_names.specs.View.{env_view}
use Rattle.bound_accesses.proofs.Fielding.{makes_member}
use Rattle.bound_accesses.proofs.members.behind_tree.Goals as goal

pub returns : goal.returns
returns c = λ k. makes_member (env_view c.args.env) c.args.tree c.args.dot c.args.member.now (draft_view c.args.draft.now) (draft_view c.behind_term.new.draft) c.in_ok-term.term c.in_ok-term.ensures k
