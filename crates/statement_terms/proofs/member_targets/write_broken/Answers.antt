use Rattle.bound_project.specs.DraftView.{draft_view}
use Rattle.statement_terms.proofs.WrittenMembers.{writes_broken}
use Rattle.statement_terms.proofs.member_targets.write_broken.Goals as goal

pub returns : goal.returns
returns c =
    writes_broken c.args.rule c.args.arguments c.in_ok-values.values c.args.place (draft_view c.args.draft.now) (draft_view c.push_broken.new.draft) c.in_ok-values.ensures c.in_ok-push_broken.ensures
