use Rattle.std.proofs.Common.{subst}
use Rattle.std.proofs.lemmas.Result.{IfOk-weaker}
use Rattle.bound_project.specs.DraftView.{draft_view}
use Rattle.bound_project.specs.Drafts.{Drafted}
use Rattle.bound_members.specs.bound_calls.specs.Taking.{StandsAlone}
use Rattle.bound_members.specs.bound_calls.specs.declared.term.Term.{Term}
use Rattle.statement_terms.proofs.SetTargets.{value_alone}
use Rattle.statement_terms.proofs.setting.set_alone.Goals as goal

pub returns-in-Value : goal.returns-in-Value
returns-in-Value c =
    let d = draft_view c.args.draft.now in
    let f = draft_view c.alone.new.draft in
    let e = draft_view c.set_value.new.draft in
    let A : Term → Type 0 = λ (t : Term). StandsAlone c.args.term c.args.place d f t in
    IfOk-weaker c.set_value.result _ _ (λ k h. value_alone c.args.set_word c.args.place c.args.term c.in-Value.ending d f e k (subst A c.in-Value.is c.in_ok-ending.ensures) h) c.set_value.ensures
