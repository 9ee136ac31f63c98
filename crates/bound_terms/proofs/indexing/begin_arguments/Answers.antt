use Rattle.std.proofs.Common.{subst}
use Rattle.std.proofs.lemmas.Result.{IfOk-weaker}
use Rattle.bound_project.specs.DraftView.{draft_view}
use Rattle.bound_accesses.specs.bound_names.specs.bound_members.specs.bound_calls.specs.declared.term.Term.{Term}
use Rattle.bound_accesses.specs.bound_names.specs.bound_members.specs.bound_calls.specs.declared.term.Term.TheVariants as term
use Rattle.bound_accesses.specs.bound_names.specs.bound_members.specs.bound_calls.specs.Standing.{TermNamed}
use Rattle.bound_accesses.specs.bound_names.specs.Callee.{CalleeIs}
use Rattle.bound_accesses.specs.bound_names.specs.View.{env_view}
use Rattle.bound_terms.proofs.Beginnings.{opens}
use Rattle.bound_terms.proofs.indexing.begin_arguments.Goals as goal

pub open_given-requires-clause-named : goal.open_given-requires-clause-named
open_given-requires-clause-named c =
    let N : Term → Type 0 = λ (t : Term). TermNamed (draft_view c.callee_term.new.draft).tables t in subst N c.in-Value.is c.in_ok-term.ensures.named

pub returns-in-Value : goal.returns-in-Value
returns-in-Value c =
    let env = env_view c.args.env in
    let d = draft_view c.args.draft.now in
    let e = draft_view c.callee_term.new.draft in
    let f = draft_view c.open_given.new.draft in
    let K : Term → Type 0 = λ (t : Term). CalleeIs env c.args.tree d e t in
    IfOk-weaker c.open_given.result _ _ (λ i o. opens env c.args.tree (term.Value c.in-Value.ending) i d e f (subst K c.in-Value.is c.in_ok-term.ensures) o) c.open_given.ensures

pub open_other-requires-clause-named : goal.open_other-requires-clause-named
open_other-requires-clause-named c = c.in_ok-term.ensures.named

pub returns : goal.returns
returns c =
    let env = env_view c.args.env in
    let d = draft_view c.args.draft.now in
    let e = draft_view c.callee_term.new.draft in
    let f = draft_view c.open_other.new.draft in
    IfOk-weaker c.open_other.result _ _ (λ i o. opens env c.args.tree c.in_ok-term.term i d e f c.in_ok-term.ensures o) c.open_other.ensures
