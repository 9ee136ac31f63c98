use Rattle.bound_project.specs.DraftView.{draft_view}
use Rattle.bound_names.specs.View.{env_view}
use Rattle.std.proofs.Common.{Option, sym, subst}
use Rattle.bound_names.specs.bound_members.specs.bound_calls.specs.declared.term.Term.{Term}
use Rattle.bound_names.specs.bound_members.specs.bound_calls.specs.declared.term.Term.TheVariants as term
use Rattle.bound_accesses.specs.Fields.{MakesBehind, ValueOrNone}
use Rattle.bound_accesses.proofs.Fielding.{behind_no_value, behind_value}
use Rattle.bound_accesses.proofs.fields.field_of_value.Goals as goal

pub returns-in-Some : goal.returns-in-Some
returns-in-Some c =
    let A : Option Term → Type 0 = λ (o : Option Term). ValueOrNone (env_view c.args.env) c.args.ending.of c.args.name.now o in
    behind_value (env_view c.args.env) c.args.place c.args.dot c.args.ending c.args.name.now (draft_view c.args.draft.now) (draft_view c.push_node.new.draft) c.in-Some.term c.requires.typed (subst A c.in-Some.is c.in_ok-found.ensures)
    c.in_ok-push_node.ensures

pub returns-in-None : goal.returns-in-None
returns-in-None c =
    let env = env_view c.args.env in
    let d = draft_view c.args.draft.now in
    let e = draft_view c.push_node.new.draft in
    let A : Option Term → Type 0 = λ (o : Option Term). ValueOrNone env c.args.ending.of c.args.name.now o in
    let P : Term → Type 0 = λ (t : Term). MakesBehind env c.args.place c.args.dot (term.Value c.args.ending) c.args.name.now d e t in
    subst P (sym c.unknown_term.ensures) (behind_no_value env c.args.place c.args.dot c.args.ending c.args.name.now d e c.requires.typed (subst A c.in-None.is c.in_ok-found.ensures) c.in_ok-push_node.ensures)
