use Rattle.std.proofs.Common.{sym, subst}
use Rattle.std.specs.Prelude.{IfOk}
use Rattle.std.proofs.lemmas.Result.{IfOk-weaker}
use Rattle.bound_project.specs.DraftView.{draft_view}
use Rattle.bound_names.specs.bound_members.specs.bound_calls.specs.declared.term.Term.{Term}
use Rattle.bound_accesses.specs.Fields.{MakesBehind}
use Rattle.bound_names.specs.View.{env_view}
use Rattle.bound_accesses.proofs.members.behind_alone.Goals as goal

pub returns-in-Place : goal.returns-in-Place
returns-in-Place c =
    let A : Term → Type 0 = λ (t : Term). IfOk c.behind_place.result (λ made. MakesBehind (env_view c.args.env) c.args.place c.args.dot t c.args.member.now (draft_view c.args.draft.now) (draft_view c.behind_place.new.draft) made) in
    subst A (sym c.in-Place.is) (IfOk-weaker c.behind_place.result _ _ (λ made m. m c.in-Place.bounds) c.behind_place.ensures)

pub returns-in-Value : goal.returns-in-Value
returns-in-Value c =
    let A : Term → Type 0 = λ (t : Term). IfOk c.behind_value.result (λ made. MakesBehind (env_view c.args.env) c.args.place c.args.dot t c.args.member.now (draft_view c.args.draft.now) (draft_view c.behind_value.new.draft) made) in
    subst A (sym c.in-Value.is) c.behind_value.ensures
