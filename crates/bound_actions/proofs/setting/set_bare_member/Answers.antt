use Rattle.std.proofs.lemmas.Result.{IfOk-weaker}
use Rattle.bound_project.specs.DraftView.{draft_view}
use Rattle.bound_actions.proofs.LateSets.{member_early, member_late}
use Rattle.bound_actions.proofs.setting.set_bare_member.Goals as goal

pub set_late-requires-clause-late : goal.set_late-requires-clause-late
set_late-requires-clause-late c = c.if-member.true

pub returns-then-member : goal.returns-then-member
returns-then-member c = member_late c.args.set_word c.args.place c.args.member (draft_view c.args.draft.now) (draft_view c.set_late.new.draft) c.in_ok-set_late.field-0 c.in_ok-set_late.ensures

pub returns : goal.returns
returns c =
    IfOk-weaker c.set_member.result _ _ (λ k s. member_early c.args.set_word c.args.place c.args.member (draft_view c.args.draft.now) (draft_view c.set_member.new.draft) k c.if-member.false s) c.set_member.ensures
