use Rattle.std.proofs.Common.{Bool, true}
use Rattle.std.proofs.lemmas.Result.{IfOk-weaker}
use Rattle.bound_project.specs.DraftView.{draft_view}
use Rattle.bound_members.specs.bound_calls.specs.declared.term.Term.TheVariants as term
use Rattle.statement_terms.specs.Members.{AssignsTerm}
use Rattle.statement_terms.proofs.WrittenMembers.{member_broken}
use Rattle.statement_terms.proofs.member_targets.assign_member.Goals as goal

pub returns-in-Some : goal.returns-in-Some
returns-in-Some c =
    let d = draft_view c.args.draft.now in
    let e = draft_view c.write_broken.new.draft in
    let m = c.args.member in
    let place = c.args.place in
    let may = c.args.may_be in
    IfOk-weaker c.write_broken.result _ (λ k. (has : Bool) → AssignsTerm has may place (term.HostMember m) d e k true) (λ k h has. member_broken has may m c.in-Some.rule place d e k c.in-Some.ensures h) c.write_broken.ensures
