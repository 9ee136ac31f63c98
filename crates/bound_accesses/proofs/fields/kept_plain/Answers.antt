use Rattle.std.proofs.Common.{ℕ, false, List, sym, subst}
use Rattle.std.proofs.lemmas.Result.{IfOk-weaker}
use Rattle.bound_project.specs.declared.node.NodeKind.TheVariants as kinds
use Rattle.bound_project.specs.DraftView.{draft_view}
use Rattle.bound_names.specs.bound_members.specs.bound_calls.specs.declared.term.Term.{Term}
use Rattle.bound_accesses.specs.Fields.{KeepsField}
use Rattle.bound_accesses.specs.Items.{FindsBehindPlace}
use Rattle.bound_names.specs.View.{env_view}
use Rattle.bound_accesses.proofs.Fielding.{keeps_field, keeps_object}
use Rattle.bound_accesses.proofs.fields.kept_plain.Goals as goal

pub returns-in_ok-found-in-None : goal.returns-in_ok-found-in-None
returns-in_ok-found-in-None c =
    let w = c.args.within in
    let env = env_view c.args.env in
    let d = draft_view c.args.draft.now in
    let e = draft_view c.behind_object_place.new.draft in
    let A : List ℕ → Type 0 = λ (l : List ℕ). FindsBehindPlace env c.args.place (record { kind = kinds.KeptPlace w.header; of = w.of }) false l d e c.in_ok-found-in-None.found in
    let P : Term → Type 0 = λ (t : Term). KeepsField env c.args.place c.args.name.now d e t in
    subst P (sym c.found_term.ensures)
    (keeps_object env w.header w.of w.lends c.args.name.now c.args.place d e c.in_ok-found-in-None.found c.requires.within (sym c.in-None.ensures) c.requires.class (subst A c.in_ok-name-in-None.ensures c.in_ok-found-in-None.ensures))

pub returns-in-Some : goal.returns-in-Some
returns-in-Some c =
    let w = c.args.within in
    IfOk-weaker c.field_behind.result _ _
    (λ t p. keeps_field (env_view c.args.env) w.header w.of w.lends c.args.name.now c.args.place (draft_view c.args.draft.now) (draft_view c.field_behind.new.draft) t c.requires.within p) c.field_behind.ensures
