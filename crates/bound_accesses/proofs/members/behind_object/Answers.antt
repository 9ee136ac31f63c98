use Rattle.bound_project.specs.DraftView.{draft_view}
use Rattle.std.proofs.Common.{ℕ, List, sym, ap, subst, ◌∙◌}
use Rattle.std.proofs.lemmas.Result.{IfOk-weaker}
use Rattle.bound_project.specs.declared.node.NodeKind.TheVariants as kinds
use Rattle.bound_names.specs.bound_members.specs.bound_calls.specs.declared.term.Term.{Term}
use Rattle.bound_names.specs.bound_members.specs.bound_calls.specs.declared.term.Term.TheVariants as term
use Rattle.bound_accesses.specs.Fields.{MakesBehind}
use Rattle.bound_accesses.specs.Items.{FindsBehindValue}
use Rattle.bound_names.specs.View.{env_view}
use Rattle.bound_accesses.proofs.Fielding.{behind_object_value}
use Rattle.bound_accesses.proofs.members.behind_object.Goals as goal

pub behind_workbook-requires-clause-book : goal.behind_workbook-requires-clause-book
behind_workbook-requires-clause-book c = c.in-HostObject.is ∙ ap (λ r. kinds.HostObject r) c.in-Workbook.is

pub returns : goal.returns
returns c = IfOk-weaker c.behind_workbook.result _ _ (λ t m. m (env_view c.args.env)) c.behind_workbook.ensures

pub returns-2 : goal.returns-2
returns-2 c =
    let env = env_view c.args.env in
    let d = draft_view c.args.draft.now in
    let e = draft_view c.behind_object_value.new.draft in
    let P : Term → Type 0 = λ (t : Term). MakesBehind env c.args.place c.args.dot (term.Value c.args.ending) c.args.member.now d e t in
    let A : List ℕ → Type 0 = λ (l : List ℕ). FindsBehindValue env c.args.place c.args.ending l d e c.in_ok-found.found in
    subst P (sym c.found_term.ensures)
    (behind_object_value env c.args.place c.args.dot c.args.ending c.args.member.now d e c.in_ok-found.found c.requires.other c.requires.class c.requires.before (subst A c.in_ok-name.ensures c.in_ok-found.ensures))
