use Rattle.std.proofs.Common.{ℕ, Bool, List, sym, subst}
use Rattle.std.proofs.lemmas.Result.{IfOk-weaker}
use Rattle.bound_project.specs.DraftView.{draft_view}
use Rattle.bound_names.specs.bound_members.specs.bound_calls.specs.declared.term.Term.{Term}
use Rattle.bound_names.specs.bound_members.specs.bound_calls.specs.declared.term.Term.TheVariants as term
use Rattle.bound_accesses.specs.Fields.{MakesBehind}
use Rattle.bound_accesses.specs.Items.{FindsBehindPlace}
use Rattle.bound_names.specs.View.{env_view}
use Rattle.bound_accesses.proofs.Fielding.{behind_place, behind_object_place}
use Rattle.bound_accesses.proofs.members.behind_plain_place.Goals as goal

pub returns-in_ok-found-in-None : goal.returns-in_ok-found-in-None
returns-in_ok-found-in-None c =
    let env = env_view c.args.env in
    let d = draft_view c.args.draft.now in
    let e = draft_view c.behind_object_place.new.draft in
    let A : List ℕ → Type 0 = λ (l : List ℕ). FindsBehindPlace env c.args.place c.args.at c.args.makes l d e c.in_ok-found-in-None.found in
    let P : Term → Type 0 = λ (t : Term). (bounds : ℕ) → MakesBehind env c.args.place c.args.dot (term.Place c.args.at.kind c.args.at.of bounds c.args.lends c.args.makes) c.args.member.now d e t in
    subst P (sym c.found_term.ensures)
    (λ bounds. behind_object_place env c.args.place c.args.dot c.args.at bounds c.args.lends c.args.makes c.args.member.now d e c.in_ok-found-in-None.found (sym c.in-None.ensures) c.requires.class
    (subst A c.in_ok-name-in-None.ensures c.in_ok-found-in-None.ensures))

pub returns-in-Some : goal.returns-in-Some
returns-in-Some c =
    IfOk-weaker c.field_behind.result _ _
    (λ t p bounds. behind_place (env_view c.args.env) c.args.place c.args.dot c.args.at bounds c.args.lends c.args.makes c.args.member.now (draft_view c.args.draft.now) (draft_view c.field_behind.new.draft) t p) c.field_behind.ensures
