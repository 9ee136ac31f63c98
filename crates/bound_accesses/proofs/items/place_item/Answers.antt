use Rattle.std.proofs.Common.{ℕ, List, Bool, false, sym, subst}
use Rattle.std.specs.Prelude.{MatchBool}
use Rattle.bound_project.specs.DraftView.{draft_view}
use Rattle.bound_project.specs.declared.node.NodeKind.{NodeKind}
use Rattle.bound_names.specs.bound_members.specs.bound_calls.specs.declared.term.Term.{Term}
use Rattle.bound_names.specs.bound_members.specs.bound_calls.specs.References.{IsFoundLate}
use Rattle.bound_accesses.specs.Items.{FindsOfPlace, MakesPlaceItem}
use Rattle.bound_names.specs.View.{env_view}
use Rattle.bound_accesses.proofs.ItemTerms.{place_item}
use Rattle.bound_accesses.proofs.items.place_item.Goals as goal

pub returns : goal.returns
returns c =
    let has = c.args.env.has_class in
    let d = draft_view c.args.draft.now in
    let e = draft_view c.member_of_place.new.draft in
    let A : List ℕ → Type 0 = λ (l : List ℕ). FindsOfPlace c.args.place c.args.at c.args.makes l d e c.in_ok-found.found in
    let P : Term → Type 0 = λ (t : Term). MakesPlaceItem (env_view c.args.env) c.args.place c.args.at c.args.makes d e t in
    let K : NodeKind → Type 0 = λ (k : NodeKind). IsFoundLate has d.tables (record { kind = k; of = c.args.at.of }) false in
    let B : Bool → Type 0 = λ (b : Bool). MatchBool b (K c.read_kind.result) (Unit {0}) in
    subst P (sym c.found_term.ensures) (place_item (env_view c.args.env) has c.args.place c.args.at c.args.makes d e c.in_ok-found.found (sym c.args.env.has_class_is)
    (subst K c.read_kind.ensures (subst B c.if-not-is_known_early.false c.is_known_early.ensures)) (subst A c.in_ok-item.ensures c.in_ok-found.ensures))
