use Rattle.std.proofs.lemmas.Result.{IfOk-weaker}
use Rattle.bound_project.specs.DraftView.{draft_view}
use Rattle.statement_terms.specs.Members.{WritesCall}
use Rattle.statement_terms.proofs.member_targets.write_call.Goals as goal

pub write_plain-requires-clause-written : goal.write_plain-requires-clause-written
write_plain-requires-clause-written c = c.if-not-is_written_call.ensures

pub write_given-requires-clause-written : goal.write_given-requires-clause-written
write_given-requires-clause-written c = c.if-not-is_written_call.ensures

pub write_named-requires-clause-written : goal.write_named-requires-clause-written
write_named-requires-clause-written c = c.if-not-is_written_call.ensures

pub returns-in-Early-None-default : goal.returns-in-Early-None-default
returns-in-Early-None-default c =
    let d = draft_view c.args.draft.now in
    IfOk-weaker c.write_plain.result _ (λ k. WritesCall c.args.may_be c.args.call d d k) (λ k h. h c.args.may_be) c.write_plain.ensures

pub returns-in-Late-Assigning-default : goal.returns-in-Late-Assigning-default
returns-in-Late-Assigning-default c =
    let d = draft_view c.args.draft.now in
    IfOk-weaker c.write_given.result _ (λ k. WritesCall c.args.may_be c.args.call d d k) (λ k h. h c.args.may_be) c.write_given.ensures
