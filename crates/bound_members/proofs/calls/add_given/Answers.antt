use Rattle.std.proofs.lemmas.Result.{IfOk-weaker}
use Rattle.bound_project.specs.DraftView.{draft_view}
use Rattle.bound_calls.specs.declared.term.Item.TheVariants as item
use Rattle.bound_calls.specs.Indexing.{AddsArgument}
use Rattle.bound_members.specs.MemberCalls.{AddsValue}
use Rattle.bound_members.proofs.MemberSteps.{adds_given}
use Rattle.bound_members.proofs.calls.add_given.Goals as goal

pub returns : goal.returns
returns c =
    let d = draft_view c.args.draft.now in
    let e = draft_view c.add_value.new.draft in
    IfOk-weaker c.add_value.result (λ z. AddsValue c.args.call c.args.tree 0 d e z) (λ z. AddsArgument (item.Member c.args.call) c.args.tree d e (item.Member z))
    (λ z v. adds_given c.args.call z c.args.tree d e c.requires.member c.if-call-ne0.false v) c.add_value.ensures
