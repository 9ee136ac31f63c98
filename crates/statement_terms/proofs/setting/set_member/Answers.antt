use Rattle.std.proofs.Common.{Bool, List, ℕ, subst, ◌≡◌}
use Rattle.std.proofs.lemmas.Result.{IfOk-weaker}
use Rattle.bound_project.specs.DraftView.{draft_view}
use Rattle.bound_members.specs.bound_calls.specs.bound_forms.specs.Operands.{is_value_name}
use Rattle.statement_terms.proofs.SetTargets.{sets_found, sets_read}
use Rattle.statement_terms.proofs.setting.set_member.Goals as goal

pub returns : goal.returns
returns c =
    let N : List ℕ → Type 0 = λ (l : List ℕ). c.is_value_name.result ≡ is_value_name l in
    IfOk-weaker c.set_alone.result _ _
    (λ k h. sets_read c.args.set_word c.args.place c.args.member (draft_view c.args.draft.now) (draft_view c.set_alone.new.draft) k c.is_late.result c.is_value_name.result c.is_late.ensures (subst N c.name.ensures c.is_value_name.ensures) (rw c.if-is_late.false c.if-is_value_name.false) h)
    c.set_alone.ensures
