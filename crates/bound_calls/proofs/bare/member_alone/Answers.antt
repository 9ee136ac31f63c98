use Rattle.std.proofs.Common.{sym, subst, ne_eqb}
use Rattle.std.proofs.lemmas.Result.{IfOk-weaker}
use Rattle.bound_project.specs.DraftView.{draft_view}
use Rattle.bound_calls.specs.declared.term.Ending.{Ending}
use Rattle.bound_calls.specs.Taking.{MemberAlone}
use Rattle.bound_calls.proofs.Lacking.{member_lacks, member_reads}
use Rattle.bound_calls.proofs.bare.member_alone.Goals as goal

pub returns-then-member-ne0 : goal.returns-then-member-ne0
returns-then-member-ne0 c =
    let d = draft_view c.args.draft.now in
    let m = c.args.member in
    subst (λ (e : Ending). MemberAlone m c.args.place d d e) (sym c.broken_ending.ensures) (member_lacks m c.args.place d (ne_eqb m.least 0 c.if-member-ne0.true))

pub returns : goal.returns
returns c =
    IfOk-weaker c.member_ending.result _ _
    (λ v h. member_reads c.args.member c.args.place (draft_view c.args.draft.now) (draft_view c.member_ending.new.draft) v h) c.member_ending.ensures
