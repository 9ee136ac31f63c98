use Rattle.std.proofs.Common.{subst}
use Rattle.bound_project.specs.DraftView.{draft_view}
use Rattle.vba_values.specs.Val.{Val}
use Rattle.bound_calls.specs.Steps.{AddsConstant}
use Rattle.bound_members.proofs.Finding.{finds_late}
use Rattle.bound_members.proofs.members.found_late.Goals as goal

pub returns : goal.returns
returns c =
    let d = draft_view c.args.draft.now in
    let e = draft_view c.constant_number.new.draft in
    let B : Val → Type 0 = λ (v : Val). AddsConstant v d e c.in_ok-constant.constant in
    finds_late c.args.name d e c.in_ok-constant.constant (subst B c.text_value.ensures c.in_ok-constant.ensures)
