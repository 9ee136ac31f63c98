use Rattle.std.proofs.Common.{sym, ◌∙◌}
use Rattle.std.proofs.lemmas.Result.{IfOk-weaker}
use Rattle.bound_project.specs.DraftView.{draft_view}
use Rattle.bound_members.specs.MemberCalls.{AddsNamed, AddsValue}
use Rattle.bound_members.proofs.MemberSteps.{adds_named}
use Rattle.bound_members.proofs.calls.add_named.Goals as goal

pub returns : goal.returns
returns c =
    let d = draft_view c.args.draft.now in
    let e = draft_view c.add_value.new.draft in
    let named = c.in_ok-named.named in
    IfOk-weaker c.add_value.result (λ z. AddsValue c.args.call c.args.tree named d e z) (λ z. AddsNamed c.args.call c.args.tree c.args.name.now d e z)
    (λ z v. adds_named c.args.call z c.args.tree c.in-Some.names c.args.name.now named d e c.requires.member (sym c.in-Some.ensures) (sym c.is_next.ensures ∙ c.if-not-is_next.false) c.in_ok-named.ensures v) c.add_value.ensures
