use Rattle.std.proofs.lemmas.Result.{IfOk-weaker}
use Rattle.bound_project.specs.DraftView.{draft_view}
use Rattle.bound_calls.proofs.Lacking.{sheet_reads}
use Rattle.bound_calls.proofs.Taking.{named_still}
use Rattle.bound_calls.proofs.bare.sheet_alone.Goals as goal

pub member_alone-requires : goal.member_alone-requires
member_alone-requires c = named_still c.args.member (draft_view c.args.draft.now) (draft_view c.push_sheet.new.draft) c.in_ok-push_sheet.ensures c.requires

pub returns : goal.returns
returns c =
    IfOk-weaker c.member_alone.result _ _
    (λ v h. sheet_reads c.args.member c.args.place (draft_view c.args.draft.now) (draft_view c.push_sheet.new.draft) (draft_view c.member_alone.new.draft) v c.in_ok-push_sheet.ensures h) c.member_alone.ensures
