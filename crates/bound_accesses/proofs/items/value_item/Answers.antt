use Rattle.std.proofs.Common.{ℕ, List, Bool, false, sym, subst}
use Rattle.std.specs.Prelude.{MatchBool}
use Rattle.bound_project.specs.DraftView.{draft_view}
use Rattle.bound_names.specs.bound_members.specs.bound_calls.specs.declared.term.Term.{Term}
use Rattle.bound_names.specs.bound_members.specs.bound_calls.specs.References.{IsFoundLate}
use Rattle.bound_accesses.specs.Items.{FindsOfValue, MakesValueItem}
use Rattle.bound_names.specs.View.{env_view}
use Rattle.bound_accesses.proofs.ItemTerms.{value_item}
use Rattle.bound_accesses.proofs.items.value_item.Goals as goal

pub returns : goal.returns
returns c =
    let has = c.args.env.has_class in
    let d = draft_view c.args.draft.now in
    let e = draft_view c.member_of_value.new.draft in
    let A : List ℕ → Type 0 = λ (l : List ℕ). FindsOfValue c.args.place c.args.ending l d e c.in_ok-found.found in
    let P : Term → Type 0 = λ (t : Term). MakesValueItem (env_view c.args.env) c.args.place c.args.ending d e t in
    let B : Bool → Type 0 = λ (b : Bool). MatchBool b (IsFoundLate has d.tables c.args.ending false) (Unit {0}) in
    subst P (sym c.found_term.ensures) (value_item (env_view c.args.env) has c.args.place c.args.ending d e c.in_ok-found.found (sym c.args.env.has_class_is) (subst B c.if-not-is_known_early.false c.is_known_early.ensures)
    (subst A c.in_ok-item.ensures c.in_ok-found.ensures))
