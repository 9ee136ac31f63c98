use Rattle.std.proofs.Common.{sym, subst}
use Rattle.std.proofs.lemmas.Result.{IfOk-weaker}
use Rattle.bound_project.specs.DraftView.{draft_view}
use Rattle.statement_terms.specs.Called.{ActsOn}
use Rattle.bound_terms.specs.bound_accesses.specs.bound_names.specs.View.{env_view}
use Rattle.bound_terms.specs.bound_accesses.specs.bound_names.specs.bound_members.specs.bound_calls.specs.declared.term.Term.{Term}
use Rattle.bound_terms.specs.bound_accesses.specs.bound_names.specs.bound_members.specs.bound_calls.specs.declared.term.Term.TheVariants as term
use Rattle.vba_base.specs.declared.place.Place.{Place}
use Rattle.bound_actions.proofs.statement_calls.given_term.Goals as goal

pub returns-in-Routine : goal.returns-in-Routine
returns-in-Routine c =
    let env = env_view c.args.env in
    let d = draft_view c.args.draft.now in
    let e = draft_view c.call_routine.new.draft in
    IfOk-weaker c.call_routine.result (λ k. ActsOn env (term.Routine c.in-Routine.routine) c.args.place c.args.nodes.now d e k) (λ k. ActsOn env c.args.term c.args.place c.args.nodes.now d e k)
    (λ k h. let A : Term → Type 0 = λ t. ActsOn env t c.args.place c.args.nodes.now d e k in subst A (sym c.in-Routine.is) h) c.call_routine.ensures

pub returns-in-ErrRaise : goal.returns-in-ErrRaise
returns-in-ErrRaise c =
    let env = env_view c.args.env in
    let d = draft_view c.args.draft.now in
    let e = draft_view c.raise.new.draft in
    IfOk-weaker c.raise.result (λ k. ActsOn env term.ErrRaise c.args.place c.args.nodes.now d e k) (λ k. ActsOn env c.args.term c.args.place c.args.nodes.now d e k)
    (λ k h. let A : Term → Type 0 = λ t. ActsOn env t c.args.place c.args.nodes.now d e k in subst A (sym c.in-ErrRaise.is) h) c.raise.ensures

pub returns-in-ErrorWord : goal.returns-in-ErrorWord
returns-in-ErrorWord c =
    let env = env_view c.args.env in
    let d = draft_view c.args.draft.now in
    let e = draft_view c.raise_number.new.draft in
    IfOk-weaker c.raise_number.result (λ k. (place : Place) → ActsOn env term.ErrorWord place c.args.nodes.now d e k) (λ k. ActsOn env c.args.term c.args.place c.args.nodes.now d e k)
    (λ k h. let A : Term → Type 0 = λ t. ActsOn env t c.args.place c.args.nodes.now d e k in subst A (sym c.in-ErrorWord.is) (h c.args.place)) c.raise_number.ensures
