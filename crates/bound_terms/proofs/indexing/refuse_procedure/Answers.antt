use Rattle.std.proofs.Common.{sym, subst}
use Rattle.bound_project.specs.DraftView.{draft_view}
use Rattle.bound_accesses.specs.bound_names.specs.bound_members.specs.bound_calls.specs.bound_forms.specs.Terms.{Env}
use Rattle.bound_accesses.specs.bound_names.specs.bound_members.specs.bound_calls.specs.declared.term.Item.{Item}
use Rattle.bound_accesses.specs.bound_names.specs.bound_members.specs.bound_calls.specs.declared.term.Refuser.{Refuser}
use Rattle.bound_accesses.specs.bound_names.specs.bound_members.specs.bound_calls.specs.declared.term.Term.TheVariants as term
use Rattle.bound_accesses.specs.bound_names.specs.bound_members.specs.bound_calls.specs.Indexing.{OpensTerm}
use Rattle.bound_terms.specs.Indexing.{untaken_at}
use Rattle.bound_terms.proofs.Refused.{procedure_untaken}
use Rattle.bound_terms.proofs.indexing.refuse_procedure.Goals as goal

pub returns : goal.returns
returns c =
    let d = draft_view c.args.draft.now in
    let e = draft_view c.push_object.new.draft in
    let P : Item → Type 0 = λ (i : Item). (env : Env) → OpensTerm env c.args.tree (term.Routine c.args.routine) d e i in
    let Q : Refuser → Type 0 = λ (r : Refuser). (env : Env) → OpensTerm env c.args.tree (term.Routine c.args.routine) d e (untaken_at c.args.tree.place r) in
    subst P (sym c.untaken.ensures) (subst Q (sym c.procedure_refuser.ensures) (λ env. procedure_untaken env c.args.tree c.args.routine d e c.requires c.in_ok-push_object.ensures))
