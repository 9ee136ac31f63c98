use Rattle.std.proofs.Common.{◌≡◌, true, sym, subst}
use Rattle.std.specs.Prelude.{IfOk}
use Rattle.std.proofs.lemmas.Result.{IfOk-weaker}
use Rattle.bound_project.specs.DraftView.{draft_view}
use Rattle.bound_names.specs.bound_members.specs.bound_calls.specs.declared.term.Term.{Term}
use Rattle.bound_accesses.specs.Items.{MakesItem, is_host_term}
use Rattle.bound_accesses.proofs.items.host_item.Goals as goal
use Rattle.bound_names.specs.View.{env_view}

IsObject : Term → Type 0
IsObject t = is_host_term t ≡ true

pub returns-in-Place : goal.returns-in-Place
unfolding IsObject
returns-in-Place c =
    let p = c.in-Place in
    let d = draft_view c.args.draft.now in
    let e = draft_view c.place_item.new.draft in
    let P : Term → Type 0 = λ (t : Term). IfOk c.place_item.result (λ y. MakesItem (env_view c.args.env) c.args.place t d e y) in
    subst P (sym p.is) (IfOk-weaker c.place_item.result _ _ (λ y h. h p.bounds p.lends (subst IsObject p.is c.requires.object)) c.place_item.ensures)

pub returns-in-Value : goal.returns-in-Value
unfolding IsObject
returns-in-Value c =
    let d = draft_view c.args.draft.now in
    let e = draft_view c.value_item.new.draft in
    let P : Term → Type 0 = λ (t : Term). IfOk c.value_item.result (λ y. MakesItem (env_view c.args.env) c.args.place t d e y) in
    subst P (sym c.in-Value.is) (IfOk-weaker c.value_item.result _ _ (λ y h. h (subst IsObject c.in-Value.is c.requires.object)) c.value_item.ensures)
