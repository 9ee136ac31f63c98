use Rattle.std.proofs.Common.{Option, sym, ap, subst, ◌∙◌}
use Rattle.bound_project.specs.DraftView.{draft_view}
use Rattle.bound_project.specs.declared.node.NodeKind.{NodeKind}
use Rattle.bound_names.specs.bound_members.specs.bound_calls.specs.declared.term.Term.{Term}
use Rattle.bound_accesses.specs.Fields.{FieldOrNone, PlacesField}
use Rattle.bound_names.specs.View.{env_view}
use Rattle.bound_accesses.proofs.Fielding.{places_found, places_none}
use Rattle.bound_accesses.proofs.ItemTerms.{one_more}
use Rattle.bound_accesses.proofs.fields.field_behind.Goals as goal

pub returns-in-Some : goal.returns-in-Some
returns-in-Some c =
    let env = env_view c.args.env in
    let A : Option Term → Type 0 = λ (o : Option Term). FieldOrNone env c.args.at.of c.args.lends c.args.name.now o in
    places_found env c.args.place c.args.dot c.args.at c.args.lends c.args.makes c.args.name.now (draft_view c.args.draft.now) (draft_view c.push_node.new.draft) c.in-Some.term (subst A c.in-Some.is c.in_ok-found.ensures) c.in_ok-push_node.ensures

pub returns-in_ok-push_node-in-None : goal.returns-in_ok-push_node-in-None
returns-in_ok-push_node-in-None c =
    let env = env_view c.args.env in
    let d = draft_view c.args.draft.now in
    let b = draft_view c.push_node.new.draft in
    let e = draft_view c.push_node-in-None.new.draft in
    let A : Option Term → Type 0 = λ (o : Option Term). FieldOrNone env c.args.at.of c.args.lends c.args.name.now o in
    let P : Term → Type 0 = λ (t : Term). PlacesField env c.args.place c.args.dot c.args.at c.args.lends c.args.makes c.args.name.now d e t in
    subst P (sym c.unknown_term.ensures)
    (places_none env c.args.place c.args.dot c.args.at c.args.lends c.args.makes c.args.name.now d b e (subst A c.in-None.is c.in_ok-found.ensures) c.in_ok-push_node.ensures
    (c.in_ok-push_node-in-None.ensures ∙ ap (λ (q : NodeKind). one_more b q c.args.at.of c.args.place) c.read_kind.ensures))
