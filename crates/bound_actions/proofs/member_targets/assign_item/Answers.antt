use Rattle.std.proofs.Common.{sym}
use Rattle.std.proofs.lemmas.Result.{IfOk-weaker}
use Rattle.bound_project.specs.DraftView.{draft_view}
use Rattle.bound_terms.specs.bound_accesses.specs.bound_names.specs.View.{env_view}
use Rattle.statement_terms.specs.Members.{AssignsItem, WritesCall}
use Rattle.bound_actions.proofs.RefusedMembers.{item_refused}
use Rattle.bound_actions.proofs.WrittenMembers.{item_assigned}
use Rattle.bound_actions.proofs.member_targets.assign_item.Goals as goal

pub refuse_item-requires-clause-named : goal.refuse_item-requires-clause-named
refuse_item-requires-clause-named c = c.in_ok-member.ensures.named

pub returns-then-is_some : goal.returns-then-is_some
returns-then-is_some c =
    let d = draft_view c.args.draft.now in
    let h = draft_view c.item_member.new.draft in
    let e = draft_view c.refuse_item.new.draft in
    IfOk-weaker c.refuse_item.result _ _ (λ k r. item_refused (env_view c.args.env) c.args.may_be c.args.place c.args.term c.in_ok-member.member c.args.nodes.now k d h e c.in_ok-member.ensures r) c.refuse_item.ensures

pub returns : goal.returns
returns c =
    let env = env_view c.args.env in
    let d = draft_view c.args.draft.now in
    let h = draft_view c.item_member.new.draft in
    let i = draft_view c.open_member.new.draft in
    let j = draft_view c.read_member.new.draft in
    let e = draft_view c.write_call.new.draft in
    IfOk-weaker c.write_call.result (λ k. WritesCall c.args.may_be c.in_ok-call.call j e k) (λ k. AssignsItem env c.args.may_be c.args.place c.args.term c.args.nodes.now d e k)
    (λ k w. item_assigned c.args.env.has_class env c.args.may_be (sym c.args.env.has_class_is) c.args.place c.args.term c.in_ok-member.member c.in_ok-opened.opened c.in_ok-call.call c.args.nodes.now k d h i j e c.in_ok-member.ensures c.in_ok-opened.ensures c.in_ok-call.ensures w) c.write_call.ensures

pub write_call-requires : goal.write_call-requires
write_call-requires c = c.in_ok-call.ensures.goes.named.0

pub read_member-requires-clause-named : goal.read_member-requires-clause-named
read_member-requires-clause-named c = c.in_ok-opened.ensures.named
