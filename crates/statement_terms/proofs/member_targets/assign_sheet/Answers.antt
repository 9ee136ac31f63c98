use Rattle.std.proofs.lemmas.Result.{IfOk-weaker}
use Rattle.std.specs.Prelude.{Bool, true}
use Rattle.bound_project.specs.DraftView.{draft_view}
use Rattle.bound_members.specs.bound_calls.specs.declared.term.Term.TheVariants as term
use Rattle.statement_terms.specs.Members.{AssignsTerm}
use Rattle.statement_terms.proofs.WrittenMembers.{sheet_assigned}
use Rattle.statement_terms.proofs.member_targets.assign_sheet.Goals as goal

pub returns : goal.returns
returns c =
    let d = draft_view c.args.draft.now in
    let f = draft_view c.push_sheet.new.draft in
    let e = draft_view c.assign_member.new.draft in
    let m = c.args.member in
    let place = c.args.place in
    let may = c.args.may_be in
    IfOk-weaker c.assign_member.result (λ k. (has : Bool) → AssignsTerm has may place (term.HostMember m) f e k true) (λ k. (has : Bool) → AssignsTerm has may place (term.SheetMember m) d e k true)
    (λ k h has. sheet_assigned has may m place d f e k c.in_ok-push_sheet.ensures (h has)) c.assign_member.ensures
