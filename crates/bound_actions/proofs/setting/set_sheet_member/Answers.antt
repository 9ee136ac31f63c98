use Rattle.std.proofs.lemmas.Result.{IfOk-weaker}
use Rattle.bound_project.specs.DraftView.{draft_view}
use Rattle.bound_actions.proofs.LateSets.{member_sheet, sheet_named}
use Rattle.bound_actions.proofs.setting.set_sheet_member.Goals as goal

pub set_bare_member-requires : goal.set_bare_member-requires
set_bare_member-requires c = sheet_named c.args.member (draft_view c.args.draft.now) (draft_view c.push_sheet.new.draft) c.in_ok-push_sheet.ensures c.requires

pub returns : goal.returns
returns c =
    let d = draft_view c.args.draft.now in
    let f = draft_view c.push_sheet.new.draft in
    let e = draft_view c.set_bare_member.new.draft in
    IfOk-weaker c.set_bare_member.result _ _ (λ k s. member_sheet c.args.set_word c.args.place c.args.member d f e k c.in_ok-push_sheet.ensures s) c.set_bare_member.ensures
